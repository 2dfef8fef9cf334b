-- How many items a `Few` has. Assumes nothing.
use Rattle.std.proofs.Common.{ℕ, ◌≤◌, length, arith}
use Rattle.std.proofs.lemmas.List.{length-take}
use Rattle.ordered.specs.Lists.{items_in}
use Rattle.ordered.specs.declared.few.Few.{Few}

pub items_few : {T : Type 0} {n : ℕ} (few : Few T n) → length (items_in few) ≤ n
items_few few = omega (arith, length-take few.count few.items, few.within)
