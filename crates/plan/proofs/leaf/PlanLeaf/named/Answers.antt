use Rattle.std.proofs.Common.{rules, ◌≡◌, ap, ◌∙◌}
use Rattle.plan.specs.Leaves.{filled}
use Rattle.plan.proofs.Fields.{mapped_filled}
use Rattle.plan.specs.contracts.leaf.fn.PlanLeaf.named.map as closure
use Rattle.plan.proofs.leaf.PlanLeaf.named.Goals as goal

pub returns : goal.returns
returns c =
    let leaf = c.args.self.now in
    let columns : c.map-columns.result ≡ filled leaf.fields c.iter-numbers.result.rest.now =
    mapped_filled _ (λ f. (closure.captures f).numbers.rest.now) (λ f x y q k. search rules) _ leaf.fields c.map-columns.result (search rules) c.map-columns.ensures.items in
    ap (λ xs. record { relation = leaf.relation; columns = xs }) (columns ∙ ap (filled leaf.fields) c.iter-numbers.ensures.rest)
