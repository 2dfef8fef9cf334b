-- The rows that a line names at a plan's leaves, and the plan's truth at them.
use Rattle.std.specs.Prelude.{◌≡◌, ℕ, ◌-◌, Bool, false, not, ◌&&◌, ◌||◌, List, [], map, length, take, drop, ◌==◌, nat_le, slice_index, slice_index_or}
use Rattle.store.specs.Rows.{zero_from}
use Rattle.store.specs.declared.row.Row.{Row}
use Rattle.plan.specs.Answers.{among, chosen, plan_width}
use Rattle.plan.specs.Filling.{leaves_before}
use Rattle.plan.specs.Gathering.{leaves_of}
use Rattle.plan.specs.Leaves.{named}
use Rattle.plan.specs.Nodes.{grown}
use Rattle.plan.specs.Plans.{nodes_of, widths_of, starts_of}
use Rattle.plan.specs.declared.node.Op.{Op}
use Rattle.plan.specs.declared.node.Op.TheVariants.{Product, Union, Difference}
use Rattle.plan.specs.declared.node.Node.{Node}
use Rattle.plan.specs.declared.node.Node.TheVariants.{Leaf, Choice, Pair}
use Rattle.plan.specs.declared.plan.Plan.{Plan}

-- the part of a plan's line that is the line of the node at k
abbrev pub part_at : Plan → List ℕ → ℕ → List ℕ
part_at plan columns k = take (slice_index (widths_of plan) k) (drop (slice_index (starts_of plan) k) columns)

-- the rows that a line names, one at each leaf
abbrev pub named_rows : Plan → List ℕ → List Row
named_rows plan columns = map (λ leaf. named leaf.relation leaf.fields (part_at plan columns leaf.node)) (leaves_of (nodes_of plan))

-- the truth of a pair, from that of its two nodes
abbrev pub combined : Op → Bool → Bool → Bool
combined Product left right = left && right
combined Union left right = left || right
combined Difference left right = left && not right

-- the truth of a node, from that of the row that it names, of its part of the line, and of the nodes before it
abbrev pub truth_of : Bool → List ℕ → List Bool → Node → Bool
truth_of own part done (Leaf relation arity fields) = own
truth_of own part done (Choice node comparison) = slice_index_or done node false && chosen comparison part
truth_of own part done (Pair op left right) = combined op (slice_index_or done left false) (slice_index_or done right false)

-- the truth of each node for a line, where `truth` tells in order whether the rows are there that the leaves name
abbrev pub truths : Plan → List ℕ → List Bool → List Bool
truths plan columns truth = grown (λ done. truth_of (slice_index_or truth (leaves_before (nodes_of plan) (length done)) false) (part_at plan columns (length done)) done) [] (nodes_of plan)

-- the column is past the width, and not zero
abbrev pub over : ℕ → List ℕ → ℕ → Bool
over width columns k = nat_le width k && not (slice_index columns k == 0)

-- eight columns, with zeros from the width on
abbrev pub line_fits : ℕ → List ℕ → Bool
line_fits width columns = length columns == 8 && zero_from width columns

-- the truth of the plan for a line: that of its last node, if the line fits the plan
abbrev pub plan_truth : Plan → List ℕ → List Bool → Bool
plan_truth plan columns truth = line_fits (plan_width (nodes_of plan)) columns && slice_index_or (truths plan columns truth) (length (nodes_of plan) - 1) false

-- `truth` begins by telling of each named row whether it is among the rows
abbrev pub Tells : Plan → List ℕ → List Row → List Bool → Type 0
Tells plan columns rows truth = take (length (named_rows plan columns)) truth ≡ map (among rows) (named_rows plan columns)
