use Rattle.std.proofs.Common.{Ok, Err, refl, rules}
use Rattle.script.proofs.counter.Counter.strike.Goals as goal

pub returns-in_err-strike-clause-says : goal.returns-in_err-strike-clause-says
returns-in_err-strike-clause-says c =
    let e = c.in_err-strike.ensures in
    (Err c.in_err-strike.field-0.0, (e.says, search rules), e.law, search rules)

pub returns-clause-says : goal.returns-clause-says
returns-clause-says c =
    let e = c.in_ok-strike.ensures in
    (Ok c.in_ok-strike.field-0, (e.says, search rules), e.law, refl)
