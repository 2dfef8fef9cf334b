use Rattle.std.proofs.Common.{◌≡◌, length, subst, sym, rules, arith, get_or, eqb, not}
use Rattle.plan.specs.Answers.{plan_width}
use Rattle.plan.specs.Filling.{Spots}
use Rattle.plan.specs.Plans.{nodes_of}
use Rattle.plan.specs.Truths.{over}
use Rattle.plan.proofs.Firsts.{spots_from_find}
use Rattle.plan.proofs.Past.{over_late, over_early}
use Rattle.plan.proofs.plan.Plan.past.Goals as goal

pub returns : goal.returns
returns c =
    let columns = c.args.line.now.columns in
    let width = plan_width (nodes_of c.args.self.now) in
    let eight : length columns ≡ 8 = omega arith in
    subst (λ n. Spots (over width columns) n c.find.result) (sym eight) (spots_from_find (over width columns) (λ k. not (eqb (get_or columns k 0) 0)) _ c.find.new.self c.find.result c.find.ensures.ran (λ x b q k. search rules)
    (λ k h. over_late width columns k (omega arith)) (λ k h. over_early width columns k (omega arith)))
