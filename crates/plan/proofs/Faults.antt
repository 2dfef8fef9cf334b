-- The first node whose tree does not fit.
use Rattle.std.proofs.Common.{◌≡◌, ℕ, zero, suc, ◌<◌, ◌≤◌, Bool, true, false, not, ◌&&◌, List, [], length, get_or, sym, refl, ap, ◌∙◌, ap₂, inl, inr, arith}
use Rattle.std.proofs.lemmas.Bool.{leb-false, and_from, and_left}
use Rattle.plan.specs.Answers.{width_of}
use Rattle.plan.specs.Filling.{Earlier, first, unfit, unfit_at}
use Rattle.plan.specs.Laws.{under, tree_fits, FirstFault}
use Rattle.plan.specs.Nodes.{grown, blank, late}
use Rattle.plan.specs.declared.node.Node.{Node}
use Rattle.plan.specs.declared.node.Node.TheVariants.{Leaf, Choice, Pair}
use Rattle.plan.proofs.Firsts.{at_first, before_first, first_is_lem, first_none}
use Rattle.plan.proofs.Grown.{Local, value_at, pair_early}

under_local : Local true under
under_local xs ys k same (Leaf relation arity fields) f = refl
under_local xs ys k same (Choice node comparison) f = same node (leb-false k node f)
under_local xs ys k same (Pair op left right) f = let (a, b) = pair_early k left right f in ap₂ ◌&&◌ (same left a) (same right b)

-- all that a node names passes, if all before it does
all_under : (done : List Bool) (k : ℕ) → ((j : ℕ) → j < k → get_or done j true ≡ true) → (n : Node) → late k n ≡ false → under done n ≡ true
all_under done k h (Leaf relation arity fields) f = refl
all_under done k h (Choice node comparison) f = h node (leb-false k node f)
all_under done k h (Pair op left right) f = let (a, b) = pair_early k left right f in and_from (get_or done left true) (get_or done right true) (h left a) (h right b)

module _ (nodes : List Node) (early : Earlier nodes) where
  abbrev Widths : List ℕ
  Widths = grown width_of [] nodes

  abbrev Sound : List Bool
  Sound = grown (λ done node. not (unfit Widths node) && under done node) [] nodes

  tree_at : (k : ℕ) → k < length nodes → tree_fits nodes k ≡ (not (unfit_at nodes k) && under Sound (get_or nodes k blank))
  tree_at k h = value_at true (λ done node. not (unfit Widths node) && under done node) (λ xs ys j same n f. ap (λ b. not (unfit Widths n) && b) (under_local xs ys j same n f)) nodes early k h

  trees_fit : (m k : ℕ) → k < m → k < length nodes → ((j : ℕ) → j < suc k → unfit_at nodes j ≡ false) → tree_fits nodes k ≡ true
  trees_fit zero k l h none = absurd (omega arith)
  trees_fit (suc m) k l h none =
      tree_at k h ∙ and_from (not (unfit_at nodes k)) (under Sound (get_or nodes k blank)) (ap not (none k (omega arith)))
      (all_under Sound k (λ j i. trees_fit m j (omega arith) (omega arith) (λ p q. none p (omega arith))) (get_or nodes k blank) (early k h))

  fit_before : (k : ℕ) → k ≤ length nodes → ((j : ℕ) → j < k → unfit_at nodes j ≡ false) → (j : ℕ) → j < k → not (tree_fits nodes j) ≡ false
  fit_before k h none j l = ap not (trees_fit (suc j) j (omega arith) (omega arith) (λ p q. none p (omega arith)))

pub first_fault_lem : FirstFault
first_fault_lem nodes early =
    let none = before_first (unfit_at nodes) (length nodes) (first (unfit_at nodes) (length nodes)) refl in
    elim (at_first (unfit_at nodes) (length nodes)) [
      | inl e ↦ first_none (λ k. not (tree_fits nodes k)) (length nodes) (fit_before nodes early (length nodes) (omega arith) (λ j l. none j (omega arith))) ∙ sym e
      | inr h ↦
          let k : ℕ = first (unfit_at nodes) (length nodes) in
          first_is_lem (λ j. not (tree_fits nodes j)) (length nodes) k h.0 (ap not (tree_at nodes early k h.0 ∙ and_left (not (unfit_at nodes k)) _ (ap not h.1))) (fit_before nodes early k (omega arith) none)
    ]
