-- Nodes in a list, each of which may name earlier ones.
use Rattle.std.specs.Prelude.{ℕ, ◌+◌, Bool, false, cond, ◌||◌, List, [], ◌∷◌, ◌++◌, ◌==◌, nat_le}
use Rattle.plan.specs.declared.node.Node.{Node}
use Rattle.plan.specs.declared.node.Node.TheVariants.{Leaf, Choice, Pair}

-- a value for each node, from the values of the nodes before it
abbrev pub grown : {A : Type 0} → (List A → Node → A) → List A → List Node → List A
grown step done [] = done
grown step done (n ∷ nodes) = grown step (done ++ (step done n ∷ [])) nodes

-- what stands past the last node
abbrev pub blank : Node
blank = Leaf 0 0 []

-- the node at k names one that is not earlier
abbrev pub late : ℕ → Node → Bool
late k (Leaf relation arity fields) = false
late k (Choice node comparison) = nat_le k node
late k (Pair op left right) = nat_le k left || nat_le k right

-- how often a node names the node at c
abbrev pub namings : ℕ → Node → ℕ
namings c (Leaf relation arity fields) = 0
namings c (Choice node comparison) = cond (node == c) 1 0
namings c (Pair op left right) = cond (left == c) 1 0 + cond (right == c) 1 0

-- 1 for a leaf, 0 for any other node
abbrev pub leaf_count : Node → ℕ
leaf_count (Leaf relation arity fields) = 1
leaf_count (Choice node comparison) = 0
leaf_count (Pair op left right) = 0
