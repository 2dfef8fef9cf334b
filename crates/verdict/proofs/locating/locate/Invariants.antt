use Rattle.std.proofs.Common.{◌-◌, length}
use Rattle.ordered.specs.Lists.{items_in}
use Rattle.plan.specs.Truths.{named_rows}
use Rattle.verdict.proofs.Placed.{Placed}
use Rattle.verdict.proofs.locating.locate.Given as goal

abbrev pub invariant-loop-row : goal.invariant-loop-row
invariant-loop-row g l = Placed (g.S.Source.model l.source) (named_rows l.plan l.line.columns) (items_in l.leaves)

abbrev pub decreases-loop-row : goal.decreases-loop-row
decreases-loop-row g l = length (named_rows l.plan l.line.columns) - length (items_in l.leaves)
