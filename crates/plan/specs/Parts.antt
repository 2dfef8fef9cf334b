-- Which part of a plan's line is the line of each node: how wide it is and where it begins.
use Rattle.std.specs.Prelude.{◌≡◌, ℕ, ◌+◌, ◌-◌, ◌<◌, ◌≤◌, Bool, true, false, ◌&&◌, List, length, ◌==◌, slice_index, slice_index_or}
use Rattle.plan.specs.Answers.{width_at}
use Rattle.plan.specs.Filling.{unfit_at}
use Rattle.plan.specs.Nodes.{blank}
use Rattle.plan.specs.declared.node.Op.{Op}
use Rattle.plan.specs.declared.node.Op.TheVariants.{Product, Union, Difference}
use Rattle.plan.specs.declared.node.Node.{Node}
use Rattle.plan.specs.declared.node.Node.TheVariants.{Leaf, Choice, Pair}

-- the widths of the nodes before m, none of which fails
abbrev pub Measured : List Node → ℕ → List ℕ → Type 0
Measured nodes m widths = (j : ℕ) → j < m → (unfit_at nodes j ≡ false) × (slice_index widths j ≡ width_at nodes j) × (slice_index widths j ≤ 8)

-- where the right line of a pair begins, if the pair's begins at o: in a product after the left line
abbrev pub right_start : Op → ℕ → ℕ → ℕ
right_start Product o left = o + left
right_start Union o left = o
right_start Difference o left = o

-- the lines of the nodes that a node names begin where they should, if its own begins at o
abbrev pub passes : List ℕ → List ℕ → ℕ → Node → Bool
passes widths offsets o (Leaf relation arity fields) = true
passes widths offsets o (Choice node comparison) = slice_index offsets node == o
passes widths offsets o (Pair op left right) = slice_index offsets left == o && slice_index offsets right == right_start op o (slice_index widths left)

-- where each node's line begins in the plan's: the last one's at 0, and so on down
abbrev pub Offsets : List Node → List ℕ → List ℕ → Type 0
Offsets nodes widths offsets =
    (slice_index offsets (length nodes - 1) ≡ 0) × ((k : ℕ) → k < length nodes → passes widths offsets (slice_index offsets k) (slice_index_or nodes k blank) ≡ true)

-- each node's line ends within the eight columns
abbrev pub Roomy : ℕ → List ℕ → List ℕ → Type 0
Roomy count widths offsets = (j : ℕ) → j < count → slice_index offsets j + slice_index widths j ≤ 8
