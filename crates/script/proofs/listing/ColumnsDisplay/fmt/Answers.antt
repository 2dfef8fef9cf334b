use Rattle.std.proofs.Common.{arith}
use Rattle.std.proofs.lemmas.Grind.{common_steps}
use Rattle.script.proofs.listing.ColumnsDisplay.fmt.Goals as goal

pub loop-column-preserved : goal.loop-column-preserved
loop-column-preserved g c = grind (arith, common_steps)

pub returns-after-loop-column-clause-writes : goal.returns-after-loop-column-clause-writes
returns-after-loop-column-clause-writes g c = grind (arith, common_steps)
