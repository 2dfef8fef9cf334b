use Rattle.std.proofs.Common.{◌≡◌, ℕ, ◌<◌, false, ◌++◌, length, drop}
use Rattle.ordered.specs.Lists.{items_in}
use Rattle.plan.specs.Gathering.{leaves_from, leaves_of}
use Rattle.plan.specs.Filling.{poor_at, leaves_before}
use Rattle.plan.proofs.tree.Tree.leaves.Given as goal

abbrev pub invariant-loop-k : goal.invariant-loop-k
invariant-loop-k l =
    ((j : ℕ) → j < l.k → poor_at l.self.nodes.now j ≡ false) × (length (items_in l.leaves) ≡ leaves_before l.self.nodes.now l.k) ×
    (items_in l.leaves ++ leaves_from l.k (drop l.k l.self.nodes.now) ≡ leaves_of l.self.nodes.now)
