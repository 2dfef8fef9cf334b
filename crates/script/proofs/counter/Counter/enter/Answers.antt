use Rattle.std.proofs.Common.{Ok, Err, refl, rules}
use Rattle.script.proofs.counter.Counter.enter.Goals as goal

pub returns-in_err-entry-clause-says : goal.returns-in_err-entry-clause-says
returns-in_err-entry-clause-says c =
    let e = c.in_err-entry.ensures in
    (Err c.in_err-entry.field-0.0, (e.says, search rules), e.law, search rules)

pub returns-clause-says : goal.returns-clause-says
returns-clause-says c =
    let e = c.in_ok-entry.ensures in
    (Ok c.in_ok-entry.field-0, (e.says, search rules), e.law, refl)
