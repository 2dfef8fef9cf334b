use Rattle.std.proofs.Common.{◌≡◌, ◌∷◌, take}
use Rattle.ordered.specs.Lists.{items_in}
use Rattle.verdict.proofs.search.ahead.with_first.Given as goal

abbrev pub invariant-loop-place : goal.invariant-loop-place
invariant-loop-place l = items_in l.all ≡ l.first ∷ take l.place-index l.places
