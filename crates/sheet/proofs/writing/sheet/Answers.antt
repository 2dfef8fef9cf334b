use Rattle.std.proofs.Common.{rules}
use Rattle.sheet.proofs.Ends.{wiped}
use Rattle.sheet.proofs.writing.sheet.Goals as goal

pub returns-in_default-clause-says : goal.returns-in_default-clause-says
returns-in_default-clause-says g c = (search rules, c.in_default.ensures, wiped c.fill.new.self _ _ (c.fill.ensures.after (λ y same. same)) c.gather.auto.lines)
