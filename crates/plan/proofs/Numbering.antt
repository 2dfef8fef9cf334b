-- The leaves by their numbers and by their places.
use Rattle.std.proofs.Common.{◌≡◌, ℕ, zero, suc, ◌+◌, ◌<◌, List, [], ◌∷◌, length, get_or, take, refl, ap, ◌∙◌, zero-add, arith}
use Rattle.std.proofs.lemmas.List.Sums.{sum_by-cons}
use Rattle.plan.specs.Filling.{leaves_before}
use Rattle.plan.specs.Gathering.{leaves_from, leaves_of}
use Rattle.plan.specs.Leaves.{fields_of}
use Rattle.plan.specs.Nodes.{blank, leaf_count}
use Rattle.plan.specs.declared.leaf.PlanLeaf.{PlanLeaf}
use Rattle.plan.specs.declared.node.Node.{Node}
use Rattle.plan.specs.declared.node.Node.TheVariants.{Leaf, Choice, Pair}

-- the leaf that a node at k is
abbrev pub leaf_of : ℕ → Node → PlanLeaf
leaf_of k (Leaf relation arity fields) = record { node = k; relation = relation; arity = arity; fields = fields_of arity fields }
leaf_of k (Choice node comparison) = record { node = k; relation = 0; arity = 0; fields = [] }
leaf_of k (Pair op left right) = record { node = k; relation = 0; arity = 0; fields = [] }

-- the leaf with the number i stands at some node, and is that node's leaf
pub record Stands (nodes : List Node) (k : ℕ) (leaf : PlanLeaf) : Type 0 where
  pub at : ℕ
  pub within : at < length nodes
  pub one : leaf_count (get_or nodes at blank) ≡ 1
  pub is : leaf ≡ leaf_of (k + at) (get_or nodes at blank)

next : (n : Node) (nodes : List Node) (k : ℕ) (leaf : PlanLeaf) → Stands nodes (k + 1) leaf → Stands (n ∷ nodes) k leaf
next n nodes k leaf s = let e : k + 1 + s.at ≡ k + suc s.at = omega arith in
    record { at = suc s.at; within = omega (arith, s.within); one = s.one; is = s.is ∙ ap (λ m. leaf_of m (get_or nodes s.at blank)) e }

stands_from : (nodes : List Node) (k i : ℕ) (d : PlanLeaf) → i < length (leaves_from k nodes) → Stands nodes k (get_or (leaves_from k nodes) i d)
stands_from [] k i d h = absurd (omega arith)
stands_from (Leaf relation arity fields ∷ nodes) k zero d h = let e : k ≡ k + 0 = omega arith in
    record { at = 0; within = omega arith; one = refl; is = ap (λ m. leaf_of m (Leaf relation arity fields)) e }
stands_from (Leaf relation arity fields ∷ nodes) k (suc i) d h = next _ nodes k _ (stands_from nodes (k + 1) i d (omega arith))
stands_from (Choice node comparison ∷ nodes) k i d h = next _ nodes k _ (stands_from nodes (k + 1) i d h)
stands_from (Pair op left right ∷ nodes) k i d h = next _ nodes k _ (stands_from nodes (k + 1) i d h)

-- the leaf at the node j has as its number how many leaves stand before it
numbered_from : (nodes : List Node) (k j : ℕ) (d : PlanLeaf) → j < length nodes → leaf_count (get_or nodes j blank) ≡ 1 →
    (leaves_before nodes j < length (leaves_from k nodes)) × (get_or (leaves_from k nodes) (leaves_before nodes j) d ≡ leaf_of (k + j) (get_or nodes j blank))
numbered_from [] k j d h one = absurd (omega arith)
numbered_from (Leaf relation arity fields ∷ nodes) k zero d h one = let e : k ≡ k + 0 = omega arith in (omega arith, ap (λ m. leaf_of m (Leaf relation arity fields)) e)
numbered_from (Leaf relation arity fields ∷ nodes) k (suc j) d h one =
    let (l, s) = numbered_from nodes (k + 1) j d (omega arith) one in
    let e : k + 1 + j ≡ k + suc j = omega arith in
    let n : leaves_before (Leaf relation arity fields ∷ nodes) (suc j) ≡ suc (leaves_before nodes j) = omega (arith, sum_by-cons leaf_count (Leaf relation arity fields) (take j nodes)) in
    (omega arith, ap (λ m. get_or (leaves_from k (Leaf relation arity fields ∷ nodes)) m d) n ∙ s ∙ ap (λ m. leaf_of m (get_or nodes j blank)) e)
numbered_from (Choice node comparison ∷ nodes) k zero d h one = absurd (omega arith)
numbered_from (Choice node comparison ∷ nodes) k (suc j) d h one =
    let (l, s) = numbered_from nodes (k + 1) j d (omega arith) one in
    let e : k + 1 + j ≡ k + suc j = omega arith in
    let n : leaves_before (Choice node comparison ∷ nodes) (suc j) ≡ leaves_before nodes j = omega (arith, sum_by-cons leaf_count (Choice node comparison) (take j nodes)) in
    (omega arith, ap (λ m. get_or (leaves_from (k + 1) nodes) m d) n ∙ s ∙ ap (λ m. leaf_of m (get_or nodes j blank)) e)
numbered_from (Pair op left right ∷ nodes) k zero d h one = absurd (omega arith)
numbered_from (Pair op left right ∷ nodes) k (suc j) d h one =
    let (l, s) = numbered_from nodes (k + 1) j d (omega arith) one in
    let e : k + 1 + j ≡ k + suc j = omega arith in
    let n : leaves_before (Pair op left right ∷ nodes) (suc j) ≡ leaves_before nodes j = omega (arith, sum_by-cons leaf_count (Pair op left right) (take j nodes)) in
    (omega arith, ap (λ m. get_or (leaves_from (k + 1) nodes) m d) n ∙ s ∙ ap (λ m. leaf_of m (get_or nodes j blank)) e)

module _ (nodes : List Node) where
  pub stands : (i : ℕ) (d : PlanLeaf) → i < length (leaves_of nodes) → Stands nodes 0 (get_or (leaves_of nodes) i d)
  stands i d h = stands_from nodes 0 i d h

  pub numbered : (j : ℕ) (d : PlanLeaf) → j < length nodes → leaf_count (get_or nodes j blank) ≡ 1 →
      (leaves_before nodes j < length (leaves_of nodes)) × (get_or (leaves_of nodes) (leaves_before nodes j) d ≡ leaf_of j (get_or nodes j blank))
  numbered j d h one = let (l, e) = numbered_from nodes 0 j d h one in (l, e ∙ ap (λ m. leaf_of m (get_or nodes j blank)) (zero-add j))
