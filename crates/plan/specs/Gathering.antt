-- The leaves of a plan, in order.
use Rattle.std.specs.Prelude.{◌≡◌, ℕ, ◌+◌, List, [], ◌∷◌, length}
use Rattle.ordered.specs.Lists.{items_in}
use Rattle.ordered.specs.declared.few.Few.{Few}
use Rattle.plan.specs.Filling.{first, poor_at}
use Rattle.plan.specs.Leaves.{fields_of}
use Rattle.plan.specs.declared.leaf.PlanLeaf.{PlanLeaf}
use Rattle.plan.specs.declared.node.Node.{Node}
use Rattle.plan.specs.declared.node.Node.TheVariants.{Leaf, Choice, Pair}

-- the leaves among nodes of which the first stands at k
abbrev pub leaves_from : ℕ → List Node → List PlanLeaf
leaves_from k [] = []
leaves_from k (Leaf relation arity fields ∷ nodes) = record { node = k; relation = relation; arity = arity; fields = fields_of arity fields } ∷ leaves_from (k + 1) nodes
leaves_from k (Choice node comparison ∷ nodes) = leaves_from (k + 1) nodes
leaves_from k (Pair op left right ∷ nodes) = leaves_from (k + 1) nodes

-- the leaves of a plan
abbrev pub leaves_of : List Node → List PlanLeaf
leaves_of nodes = leaves_from 0 nodes

-- at most six leaves in order, none of which fails
pub record Gathered (nodes : List Node) (leaves : Few PlanLeaf 6) : Type 0 where
  pub none : first (poor_at nodes) (length nodes) ≡ length nodes
  pub stand : items_in leaves ≡ leaves_of nodes
