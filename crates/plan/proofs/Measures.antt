-- The widths of nodes, from an array that has those of the nodes before.
use Rattle.std.proofs.Common.{◌≡◌, ℕ, ◌<◌, ◌≤◌, true, false, not, ◌&&◌, leb, List, [], length, get_or, sym, refl, ap, ◌∙◌, subst, ap₂, arith}
use Rattle.std.proofs.lemmas.Bool.{leb-false, leb-true, and_parts, not-false}
use Rattle.plan.specs.Leaves.{fields_of, opens}
use Rattle.plan.specs.Nodes.{grown, blank, late}
use Rattle.plan.specs.Answers.{width_by, width_of, width_at}
use Rattle.plan.specs.Filling.{Earlier, inside, alike, sides_fit, unfit, unfit_at}
use Rattle.plan.specs.Parts.{Measured}
use Rattle.plan.specs.declared.node.Field.{Field}
use Rattle.store.specs.declared.comparison.Comparison.{Comparison}
use Rattle.plan.specs.declared.node.Op.{Op}
use Rattle.plan.specs.declared.node.Node.{Node}
use Rattle.plan.specs.declared.node.Node.TheVariants.{Leaf, Choice, Pair}
use Rattle.plan.proofs.Grown.{Agree, Local, value_at, pair_early}

width_local : Local 0 width_of
width_local xs ys k same (Leaf relation arity fields) f = refl
width_local xs ys k same (Choice node comparison) f = same node (leb-false k node f)
width_local xs ys k same (Pair op left right) f = let (a, b) = pair_early k left right f in ap₂ (width_by op) (same left a) (same right b)

fit_local : Local 0 sides_fit
fit_local xs ys k same (Leaf relation arity fields) f = refl
fit_local xs ys k same (Choice node comparison) f = ap (λ w. inside w comparison) (same node (leb-false k node f))
fit_local xs ys k same (Pair op left right) f = let (a, b) = pair_early k left right f in ap₂ (alike op) (same left a) (same right b)

unfit_local : Local 0 unfit
unfit_local xs ys k same n f = ap₂ (λ fit w. not (fit && leb w 8)) (fit_local xs ys k same n f) (width_local xs ys k same n f)

module _ (nodes : List Node) (early : Earlier nodes) (k : ℕ) (within : k < length nodes) where
  pub width_at_lem : width_at nodes k ≡ width_of (grown width_of [] nodes) (get_or nodes k blank)
  width_at_lem = value_at 0 width_of width_local nodes early k within

  module _ (ws : List ℕ) (same : Agree 0 k ws (grown width_of [] nodes)) where
    pub width_by_lem : width_of ws (get_or nodes k blank) ≡ width_at nodes k
    width_by_lem = width_local ws (grown width_of [] nodes) k same (get_or nodes k blank) (early k within) ∙ sym width_at_lem

    pub unfit_by : unfit ws (get_or nodes k blank) ≡ unfit_at nodes k
    unfit_by = unfit_local ws (grown width_of [] nodes) k same (get_or nodes k blank) (early k within)

-- nodes of which none fails are no wider than 8
pub measured : (nodes : List Node) → Earlier nodes → (ws : List ℕ) → ws ≡ grown width_of [] nodes → ((j : ℕ) → j < length nodes → unfit_at nodes j ≡ false) → Measured nodes (length nodes) ws
measured nodes early ws e fits j h =
    let all : List ℕ = grown width_of [] nodes in
    let node : Node = get_or nodes j blank in
    let same : get_or ws j 0 ≡ width_at nodes j = ap (λ l. get_or l j 0) e in
    let small : width_of all node ≤ 8 = leb-true (width_of all node) 8 (and_parts (sides_fit all node) (leb (width_of all node) 8) (not-false _ (fits j h))).1 in
    (fits j h, same, omega (arith, same, width_at_lem nodes early j h, small))

-- what a node that does not fail says of the widths of those that it names
module _ (nodes : List Node) (early : Earlier nodes) (ws : List ℕ) (wide : Measured nodes (length nodes) ws) (k : ℕ) (within : k < length nodes) where
  not_late : (n : Node) → get_or nodes k blank ≡ n → late k n ≡ false
  not_late n e = subst (λ m. late k m ≡ false) e (early k within)

  sides : (n : Node) → get_or nodes k blank ≡ n → sides_fit (grown width_of [] nodes) n ≡ true
  sides n e = (and_parts (sides_fit (grown width_of [] nodes) n) (leb (width_of (grown width_of [] nodes) n) 8) (not-false _ (subst (λ m. unfit (grown width_of [] nodes) m ≡ false) e (wide k within).0))).0

  is_wide : (n : Node) → get_or nodes k blank ≡ n → get_or ws k 0 ≡ width_of (grown width_of [] nodes) n
  is_wide n e = (wide k within).1 ∙ width_at_lem nodes early k within ∙ ap (width_of (grown width_of [] nodes)) e

  pub leaf_wide : (relation arity : ℕ) (fields : List Field) → get_or nodes k blank ≡ Leaf relation arity fields → get_or ws k 0 ≡ opens (fields_of arity fields)
  leaf_wide relation arity fields e = is_wide (Leaf relation arity fields) e

  pub choice_fits : (m : ℕ) (comparison : Comparison ℕ) → get_or nodes k blank ≡ Choice m comparison →
      (m < k) × (get_or ws k 0 ≡ get_or ws m 0) × (inside (get_or ws m 0) comparison ≡ true)
  choice_fits m comparison e =
      let l : m < k = leb-false k m (not_late (Choice m comparison) e) in
      let w : get_or ws m 0 ≡ width_at nodes m = (wide m (omega arith)).1 in
      (l, is_wide (Choice m comparison) e ∙ sym w, subst (λ v. inside v comparison ≡ true) (sym w) (sides (Choice m comparison) e))

  pub pair_fits : (op : Op) (left right : ℕ) → get_or nodes k blank ≡ Pair op left right →
      (left < k) × (right < k) × (get_or ws k 0 ≡ width_by op (get_or ws left 0) (get_or ws right 0)) × (alike op (get_or ws left 0) (get_or ws right 0) ≡ true)
  pair_fits op left right e =
      let (i, j) = pair_early k left right (not_late (Pair op left right) e) in
      let v : width_at nodes left ≡ get_or ws left 0 = sym (wide left (omega arith)).1 in
      let w : width_at nodes right ≡ get_or ws right 0 = sym (wide right (omega arith)).1 in
      (i, j, is_wide (Pair op left right) e ∙ ap₂ (width_by op) v w, sym (ap₂ (alike op) v w) ∙ sides (Pair op left right) e)
