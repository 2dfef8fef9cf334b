-- Where the leaves stand, node by node.
use Rattle.std.proofs.Common.{◌≡◌, ℕ, ◌+◌, ◌<◌, false, leb, List, [], ◌∷◌, ◌++◌, length, get_or, drop, sym, refl, ap, ◌∙◌, append_assoc, arith}
use Rattle.std.proofs.lemmas.Bool.{leb-false, or_parts}
use Rattle.std.proofs.lemmas.List.{at_drop_more}
use Rattle.std.proofs.lemmas.List.Sums.{sum_by_more}
use Rattle.plan.specs.Nodes.{blank, leaf_count}
use Rattle.plan.specs.Filling.{poor, leaves_before}
use Rattle.plan.specs.Gathering.{leaves_from}
use Rattle.plan.specs.Leaves.{fields_of}
use Rattle.plan.specs.declared.leaf.PlanLeaf.{PlanLeaf}
use Rattle.plan.specs.declared.node.Field.{Field}
use Rattle.plan.specs.declared.node.Node.{Node}
use Rattle.plan.specs.declared.node.Node.TheVariants.{Leaf, Choice, Pair}

-- a node that is no leaf
abbrev pub NoLeaf : Node → Type 0
NoLeaf n = (relation arity : ℕ) (fields : List Field) → n ≡ Leaf relation arity fields → ⊥

pub no_leaf_count : (n : Node) → NoLeaf n → leaf_count n ≡ 0
no_leaf_count (Leaf relation arity fields) other = absurd (other relation arity fields refl)
no_leaf_count (Choice node comparison) other = refl
no_leaf_count (Pair op left right) other = refl

no_leaf_from : (k : ℕ) (n : Node) (ns : List Node) → NoLeaf n → leaves_from k (n ∷ ns) ≡ leaves_from (k + 1) ns
no_leaf_from k (Leaf relation arity fields) ns other = absurd (other relation arity fields refl)
no_leaf_from k (Choice node comparison) ns other = refl
no_leaf_from k (Pair op left right) ns other = refl

-- a leaf that does not fail is one of six
pub one_of_six : (before relation arity : ℕ) (fields : List Field) → poor before (Leaf relation arity fields) ≡ false → before < 6
one_of_six before relation arity fields h = leb-false 6 before (or_parts (leb 6 before) _ h).0

module _ (nodes : List Node) (k : ℕ) (l : k < length nodes) where
  pub count_leaf : (relation arity : ℕ) (fields : List Field) → get_or nodes k blank ≡ Leaf relation arity fields → leaves_before nodes (k + 1) ≡ leaves_before nodes k + 1
  count_leaf relation arity fields e = omega (arith, sum_by_more leaf_count nodes k blank l, ap leaf_count e)

  pub count_other : NoLeaf (get_or nodes k blank) → leaves_before nodes (k + 1) ≡ leaves_before nodes k
  count_other other = omega (arith, sum_by_more leaf_count nodes k blank l, no_leaf_count _ other)

  -- the leaves that were found, and those that are still to come
  pub stand_leaf : (leaves : List PlanLeaf) (relation arity : ℕ) (fields : List Field) → get_or nodes k blank ≡ Leaf relation arity fields →
      (leaves ++ (record { node = k; relation = relation; arity = arity; fields = fields_of arity fields } ∷ [])) ++ leaves_from (k + 1) (drop (k + 1) nodes) ≡ leaves ++ leaves_from k (drop k nodes)
  stand_leaf leaves relation arity fields e =
      append_assoc leaves (record { node = k; relation = relation; arity = arity; fields = fields_of arity fields } ∷ []) (leaves_from (k + 1) (drop (k + 1) nodes)) ∙
      ap (λ r. leaves ++ r) (sym (at_drop_more (leaves_from k) nodes k blank l ∙ ap (λ n. leaves_from k (n ∷ drop (k + 1) nodes)) e))

  pub stand_other : NoLeaf (get_or nodes k blank) → leaves_from (k + 1) (drop (k + 1) nodes) ≡ leaves_from k (drop k nodes)
  stand_other other = sym (at_drop_more (leaves_from k) nodes k blank l ∙ no_leaf_from k (get_or nodes k blank) (drop (k + 1) nodes) other)
