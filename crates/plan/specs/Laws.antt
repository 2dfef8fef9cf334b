-- The theorems about plans.
use Rattle.std.specs.Prelude.{◌≡◌, ℕ, Bool, true, not, ◌&&◌, List, [], length, slice_index_or}
use Rattle.store.specs.declared.row.Row.{Row}
use Rattle.plan.specs.Answers.{is_answer, width_of}
use Rattle.plan.specs.Filling.{Earlier, first, unfit, unfit_at}
use Rattle.plan.specs.Nodes.{grown}
use Rattle.plan.specs.Plans.{nodes_of}
use Rattle.plan.specs.Truths.{Tells, plan_truth}
use Rattle.plan.specs.declared.node.Node.{Node}
use Rattle.plan.specs.declared.node.Node.TheVariants.{Leaf, Choice, Pair}
use Rattle.plan.specs.declared.plan.Plan.{Plan}

-- whether a line is an answer over rows is the plan's truth at "the rows have the row that the line names at this leaf"
abbrev pub ByNames : Type 0
ByNames = (plan : Plan) (columns : List ℕ) (rows : List Row) (truth : List Bool) → Tells plan columns rows truth → is_answer (nodes_of plan) rows columns ≡ plan_truth plan columns truth

-- each node that a node names passes
abbrev pub under : List Bool → Node → Bool
under done (Leaf relation arity fields) = true
under done (Choice node comparison) = slice_index_or done node true
under done (Pair op left right) = slice_index_or done left true && slice_index_or done right true

-- the node at k fits, and so does every node of the tree under it
abbrev pub tree_fits : List Node → ℕ → Bool
tree_fits nodes k = slice_index_or (grown (λ done node. not (unfit (grown width_of [] nodes) node) && under done node) [] nodes) k true

-- the first node whose tree does not fit is the first node that itself fails
abbrev pub FirstFault : Type 0
FirstFault = (nodes : List Node) → Earlier nodes → first (λ k. not (tree_fits nodes k)) (length nodes) ≡ first (unfit_at nodes) (length nodes)
