use Rattle.std.proofs.Common.{◌<◌, map, length, take, ap, ◌∙◌, subst, arith}
use Rattle.std.proofs.lemmas.Grind.{common_steps}
use Rattle.std.proofs.lemmas.List.{take_more, take_all, map-append, length-map, length-take}
use Rattle.ordered.specs.Lists.{items_in}
use Rattle.rules.specs.declared.chosen.Pick.{Pick}
use Rattle.rules.proofs.Sorting.{Sorted, sorted_more, sorted_made}
use Rattle.rules.proofs.conflict.Conflict.of.Goals as goal

pub loop-pick-preserved : goal.loop-pick-preserved
loop-pick-preserved c =
    let items = c.as_slice-pick-items.result.now in
    let i = c.loop-pick.pick-index in
    let (same, so) = c.loop-pick.invariant in
    let room : length (map (λ (p : Pick). p.place) (take i items)) < 3 = omega (arith, length-map (take i items) (λ (p : Pick). p.place), length-take i items, c.as_slice-pick-items.ensures.within) in
    (same, sorted_more so _ room (ap (map (λ (p : Pick). p.place)) (take_more items i _ (omega arith)) ∙ map-append (λ (p : Pick). p.place) (take i items) _) _ c.enter.ensures)

pub returns : goal.returns
returns c =
    let (same, so) = c.loop-pick.invariant in
    let seen = ap (map (λ (p : Pick). p.place)) (take_all c.loop-pick.pick-index c.as_slice-pick-items.result.now (omega arith) ∙ same) in
    let after = c.copy_from_slice.ensures.after in
    let items = c.as_slice.ensures.items in
    sorted_made (subst (λ l. Sorted l (items_in c.loop-pick.sorted)) seen so) (grind (arith, common_steps)) c.args.rule
