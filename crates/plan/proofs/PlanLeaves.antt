-- The leaves of a plan: where each stands, and how wide it is.
use Rattle.std.proofs.Common.{◌≡◌, ℕ, ◌+◌, ◌<◌, ◌≤◌, List, length, length-take, get_or, Some, None, Option, sym, refl, ap, ◌∙◌, subst, inl, inr, zero-add, arith}
use lib.ListN.{length-map}
use Rattle.std.specs.List.{slice_get}
use Rattle.std.proofs.lemmas.Option.{slice_get-get_or, slice_get_past}
use Rattle.std.proofs.lemmas.Bool.{cases_lt}
use Rattle.plan.specs.Filling.{leaves_before}
use Rattle.plan.specs.Gathering.{leaves_of}
use Rattle.plan.specs.Leaves.{opens, named}
use Rattle.plan.specs.Nodes.{blank, leaf_count}
use Rattle.plan.specs.Plans.{nodes_of, widths_of}
use Rattle.plan.specs.Truths.{part_at, named_rows}
use Rattle.plan.specs.declared.leaf.PlanLeaf.{PlanLeaf}
use Rattle.plan.specs.declared.node.Field.{Field}
use Rattle.plan.specs.declared.node.Node.{Node}
use Rattle.plan.specs.declared.node.Node.TheVariants.{Leaf, Choice, Pair}
use Rattle.plan.specs.declared.plan.Plan.{Plan}
use Rattle.plan.proofs.PlanNodes.{leaf_in}
use Rattle.plan.proofs.Numbering.{leaf_of, Stands, stands, numbered}

node_of : (k : ℕ) (n : Node) → (leaf_of k n).node ≡ k
node_of k (Leaf relation arity fields) = refl
node_of k (Choice node comparison) = refl
node_of k (Pair op left right) = refl

-- a leaf of the plan: it stands at a node, and is that node's leaf
pub record LeafIn (plan : Plan) (leaf : PlanLeaf) : Type 0 where
  pub within : leaf.node < length (nodes_of plan)
  pub one : leaf_count (get_or (nodes_of plan) leaf.node blank) ≡ 1
  pub is : leaf ≡ leaf_of leaf.node (get_or (nodes_of plan) leaf.node blank)

module _ (plan : Plan) where
  pub leaves_few : length (leaves_of (nodes_of plan)) ≤ 6
  leaves_few = omega (arith, ap length plan.stand, length-take plan.leaves.count plan.leaves.items, plan.leaves.within)

  -- the leaf with the number i
  leaf_at : (i : ℕ) (d : PlanLeaf) → i < length (leaves_of (nodes_of plan)) → LeafIn plan (get_or (leaves_of (nodes_of plan)) i d)
  leaf_at i d h =
      let leaf : PlanLeaf = get_or (leaves_of (nodes_of plan)) i d in
      let s : Stands (nodes_of plan) 0 leaf = stands (nodes_of plan) i d h in
      let at : leaf.node ≡ s.at = ap (λ x. x.node) s.is ∙ node_of (0 + s.at) (get_or (nodes_of plan) s.at blank) ∙ zero-add s.at in
      let same : get_or (nodes_of plan) s.at blank ≡ get_or (nodes_of plan) leaf.node blank = ap (λ k. get_or (nodes_of plan) k blank) (sym at) in
      record { within = omega (arith, s.within); one = sym (ap leaf_count same) ∙ s.one; is = s.is ∙ ap (λ k. leaf_of k (get_or (nodes_of plan) s.at blank)) (zero-add s.at ∙ sym at) ∙ ap (leaf_of leaf.node) same }

  width_by : (k : ℕ) → k < length (nodes_of plan) → (n : Node) → get_or (nodes_of plan) k blank ≡ n → leaf_count n ≡ 1 → get_or (widths_of plan) k 0 ≡ opens (leaf_of k n).fields
  width_by k h (Leaf relation arity fields) e one = leaf_in plan k h relation arity fields e
  width_by k h (Choice node comparison) e one = absurd (omega arith)
  width_by k h (Pair op left right) e one = absurd (omega arith)

  -- a leaf's part of a line has as many numbers as the leaf has open columns
  pub leaf_width : (leaf : PlanLeaf) → LeafIn plan leaf → get_or (widths_of plan) leaf.node 0 ≡ opens leaf.fields
  leaf_width leaf l = width_by leaf.node l.within (get_or (nodes_of plan) leaf.node blank) refl l.one ∙ ap (λ x. opens x.fields) (sym l.is)

  -- a leaf that stands in the list
  pub leaf_listed : (leaves : List PlanLeaf) → leaves ≡ leaves_of (nodes_of plan) → (i : ℕ) (d : PlanLeaf) → i < length leaves → LeafIn plan (get_or leaves i d)
  leaf_listed leaves e i d h = subst (λ ls. LeafIn plan (get_or ls i d)) (sym e) (leaf_at i d (omega (arith, ap length e)))

  -- a leaf that was read by its number is one of the plan's
  pub leaf_read : (i : ℕ) (leaf : PlanLeaf) → slice_get (leaves_of (nodes_of plan)) i ≡ Some leaf → (i < length (leaves_of (nodes_of plan))) × LeafIn plan leaf
  leaf_read i leaf e = elim (cases_lt i (length (leaves_of (nodes_of plan)))) [
    | inl h ↦
        let f : Some (get_or (leaves_of (nodes_of plan)) i leaf) ≡ Some leaf = sym (slice_get-get_or (leaves_of (nodes_of plan)) i leaf h) ∙ e in
        let same : get_or (leaves_of (nodes_of plan)) i leaf ≡ leaf = cc in
        (h, subst (LeafIn plan) same (leaf_at i leaf h))
    | inr h ↦ absurd (let f : ◌≡◌ {A = Option PlanLeaf} None (Some leaf) = sym (slice_get_past (leaves_of (nodes_of plan)) i h) ∙ e in let z : ◌≡◌ {A = ℕ} 0 1 = cc in omega arith)
  ]

  -- the number of a leaf, by its place
  pub leaf_number : (k : ℕ) → k < length (nodes_of plan) → (relation arity : ℕ) (fields : List Field) → get_or (nodes_of plan) k blank ≡ Leaf relation arity fields →
      (leaves_before (nodes_of plan) k < length (leaves_of (nodes_of plan))) × ((d : PlanLeaf) → get_or (leaves_of (nodes_of plan)) (leaves_before (nodes_of plan) k) d ≡ leaf_of k (Leaf relation arity fields))
  leaf_number k h relation arity fields is =
      ((numbered (nodes_of plan) k (leaf_of 0 blank) h (ap leaf_count is)).0, λ d. (numbered (nodes_of plan) k d h (ap leaf_count is)).1 ∙ ap (leaf_of k) is)

  -- a line names as many rows as there are leaves
  pub named_long : (columns : List ℕ) → length (named_rows plan columns) ≡ length (leaves_of (nodes_of plan))
  named_long columns = length-map (leaves_of (nodes_of plan)) (λ leaf. named leaf.relation leaf.fields (part_at plan columns leaf.node))
