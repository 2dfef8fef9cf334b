use Rattle.std.proofs.Common.{length, refl, ap, ◌∙◌, rules}
use Rattle.std.proofs.lemmas.Iterator.{YieldsList-from_slice}
use Rattle.std.proofs.lemmas.Iterator.Consumers.{YieldsList-from_enumerate}
use Rattle.std.specs.Slice.Iter.{iter_rest}
use Rattle.plan.specs.Filling.{late_at}
use Rattle.plan.specs.Nodes.{late, blank}
use Rattle.plan.proofs.Firsts.{spots_from_position, spots_as_error}
use Rattle.plan.proofs.nodes.Nodes.check_earlier.Goals as goal

pub returns : goal.returns
returns c =
    let nodes = c.args.self.now.nodes.now in
    let test = late_at nodes in
    let road = YieldsList-from_enumerate (YieldsList-from_slice nodes (ap iter_rest c.enumerate.ensures.source ∙ c.iter.ensures.rest)) c.enumerate.ensures.count in
    spots_as_error test (length nodes) c.position.result c.map_or.result c.map_or.ensures
    (spots_from_position test (λ p. late p.0 p.1) blank nodes c.position.result _ c.position.ensures.ran road (λ x b q k. search rules) (λ k h. refl))
