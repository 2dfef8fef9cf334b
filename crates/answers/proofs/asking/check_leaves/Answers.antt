use Rattle.std.proofs.Common.{rules, ◌≡◌, false, eqb, ◌∙◌}
use Rattle.std.proofs.lemmas.Iterator.{first_from_find, YieldsList-from_slice}
use Rattle.plan.specs.Gathering.{leaves_of}
use Rattle.plan.specs.Plans.{nodes_of}
use Rattle.plan.specs.declared.leaf.PlanLeaf.{PlanLeaf}
use Rattle.answers.proofs.Leaves.{Alike, leaves_say}
use Rattle.answers.proofs.asking.check_leaves.Goals as goal

pub returns : goal.returns
returns g c =
    let arity = (g.S.Source.model c.args.source.now).arity in
    let leaves = leaves_of (nodes_of c.args.plan.now) in
    leaves_say arity (λ leaf. leaf.now) leaves c.find.result
    (first_from_find c.find.new.self _ c.find.result (λ (x : PlanLeaf). eqb x.arity (arity x.relation) ≡ false) (Alike arity) c.find.ensures.ran
    (YieldsList-from_slice leaves (c.iter.ensures.rest ∙ c.leaf_list.ensures)) (λ x q k. search rules) (λ x q k. search rules)) c.map_or.result c.map_or.ensures (λ x p. search rules)
