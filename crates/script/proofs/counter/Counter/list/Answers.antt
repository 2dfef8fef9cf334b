use Rattle.std.proofs.Common.{Ok, Err, rules}
use Rattle.script.proofs.Answering.{listed_says}
use Rattle.script.proofs.counter.Counter.list.Goals as goal

pub returns-in_err-count-clause-says : goal.returns-in_err-count-clause-says
returns-in_err-count-clause-says c =
    let (fills, same) = c.in_ok-plan.ensures in
    let e = c.in_err-count.ensures in
    listed_says _ _ _ _ _ _ fills same c.args.self.now.sheet _ _ (Err c.in_err-count.field-0.0) (search rules) (search rules) e.says e.law (search rules)

pub returns-clause-says : goal.returns-clause-says
returns-clause-says c =
    let (fills, same) = c.in_ok-plan.ensures in
    let e = c.in_ok-count.ensures in
    listed_says _ _ _ _ _ _ fills same c.args.self.now.sheet _ _ (Ok c.in_ok-count.count) (search rules) (search rules) e.says e.law (search rules)
