use Rattle.std.proofs.Common.{◌≡◌, map, take}
use Rattle.ordered.specs.Lists.{items_in}
use Rattle.rules.proofs.Sorting.{Sorted}
use Rattle.rules.proofs.conflict.Conflict.of.Given as goal

abbrev pub invariant-loop-pick : goal.invariant-loop-pick
invariant-loop-pick l = (l.pick-items ≡ items_in l.chosen) × Sorted (map (λ p. p.place) (take l.pick-index l.pick-items)) (items_in l.sorted)
