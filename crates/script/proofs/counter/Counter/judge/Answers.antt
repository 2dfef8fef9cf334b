use Rattle.std.proofs.Common.{Ok, ap, sym, rules}
use Rattle.script.specs.Counters.{judged}
use Rattle.script.proofs.Answering.{judged_says}
use Rattle.script.proofs.counter.Counter.judge.Goals as goal

pub returns-in-Sure-clause-says : goal.returns-in-Sure-clause-says
returns-in-Sure-clause-says c =
    let (fills, same) = c.in_ok-plan.ensures in
    let e = c.in_ok-verdict.ensures in
    judged_says _ _ c.args.self.now.sheet _ _ _ fills same _ c.args.self.now.core c.verdict.new.core _ _ (Ok c.in_ok-verdict.field-0) (search rules) (search rules) e.says e.law (ap (λ v. Ok (judged v)) (sym c.in-Sure.is))

pub returns-in-Unsure-clause-says : goal.returns-in-Unsure-clause-says
returns-in-Unsure-clause-says c =
    let (fills, same) = c.in_ok-plan.ensures in
    let e = c.in_ok-verdict.ensures in
    judged_says _ _ c.args.self.now.sheet _ _ _ fills same _ c.args.self.now.core c.verdict.new.core _ _ (Ok c.in_ok-verdict.field-0) (search rules) (search rules) e.says e.law (ap (λ v. Ok (judged v)) (sym c.in-Unsure.is))
