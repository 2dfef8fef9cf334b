use Rattle.std.proofs.Common.{◌≡◌, ℕ, ◌<◌, ◌≤◌, false, [], take, replicate}
use Rattle.std.specs.List.{All}
use Rattle.ordered.specs.Lists.{items_in}
use Rattle.plan.specs.Answers.{width_of}
use Rattle.plan.specs.Filling.{unfit_at}
use Rattle.plan.specs.Nodes.{grown}
use Rattle.plan.specs.Steps.{nodes_in, widths_in, starts_in}
use Rattle.plan.proofs.tree.Tree.measure.Given as goal

abbrev pub invariant-loop-k : goal.invariant-loop-k
invariant-loop-k l =
    (nodes_in (items_in l.steps) ≡ take l.k l.self.nodes.now) × (widths_in (items_in l.steps) ≡ take l.k (grown width_of [] l.self.nodes.now)) × (starts_in (items_in l.steps) ≡ replicate l.k 0) ×
    ((j : ℕ) → j < l.k → unfit_at l.self.nodes.now j ≡ false) × All (λ step. step.width ≤ 8) (items_in l.steps)
