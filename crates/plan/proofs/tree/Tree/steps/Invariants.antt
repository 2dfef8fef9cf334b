use Rattle.std.proofs.Common.{◌≡◌, ◌≤◌, length}
use Rattle.ordered.specs.Lists.{items_in}
use Rattle.plan.specs.Parts.{Measured}
use Rattle.plan.specs.Steps.{nodes_in, widths_in, starts_in}
use Rattle.plan.proofs.Offsetting.{Inv}
use Rattle.plan.proofs.tree.Tree.steps.Given as goal

abbrev pub invariant-loop-k : goal.invariant-loop-k
invariant-loop-k l =
    let nodes = l.self.nodes.now in
    let widths = widths_in (items_in l.steps) in
    (l.k ≤ length nodes) × (nodes_in (items_in l.steps) ≡ nodes) × Measured nodes (length nodes) widths × Inv nodes widths l.k (starts_in (items_in l.steps))
