-- The columns of a line past a plan's width.
use Rattle.std.proofs.Common.{◌≡◌, ℕ, ◌<◌, ◌≤◌, false, cond, not, eqb, leb, List, length, get_or, Some, None, ap, ◌∙◌, arith}
use Rattle.std.proofs.lemmas.Bool.{eq-eqb, ne_eqb, le-leb, and_from, and_right}
use Rattle.plan.specs.Filling.{first}
use Rattle.plan.proofs.Firsts.{first_is_lem, first_none}
use Rattle.plan.specs.Truths.{over}
use Rattle.answers.specs.Asking.{line_no}
use Rattle.answers.specs.declared.refusal.Refusal.TheVariants.{Column}

module _ (width : ℕ) (columns : List ℕ) where
  pub over_zero : (k : ℕ) → get_or columns k 0 ≡ 0 → over width columns k ≡ false
  over_zero k e = and_right (leb width k) (not (eqb (get_or columns k 0) 0)) (ap not (eq-eqb (get_or columns k 0) 0 e))

  pub line_fails : (k : ℕ) → k < length columns → width ≤ k → (get_or columns k 0 ≡ 0 → ⊥) → ((j : ℕ) → j < k → over width columns j ≡ false) → line_no width columns ≡ Some (Column k)
  line_fails k h w ne none =
      let is : first (over width columns) (length columns) ≡ k =
      first_is_lem (over width columns) (length columns) k h (and_from (leb width k) (not (eqb (get_or columns k 0) 0)) (le-leb width k w) (ap not (ne_eqb (get_or columns k 0) 0 ne))) none in
      ap (λ i. cond (eqb i (length columns)) None (Some (Column i))) is ∙ ap (λ b. cond b None (Some (Column k))) (ne_eqb k (length columns) (λ e. omega arith))

  pub line_passes : ((j : ℕ) → j < length columns → over width columns j ≡ false) → line_no width columns ≡ None
  line_passes none =
      let is = first_none (over width columns) (length columns) none in
      ap (λ b. cond b None (Some (Column (first (over width columns) (length columns))))) (eq-eqb (first (over width columns) (length columns)) (length columns) is)
