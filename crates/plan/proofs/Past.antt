-- The columns of a line from a width on.
use Rattle.std.proofs.Common.{◌≡◌, ℕ, suc, ◌+◌, ◌-◌, ◌<◌, ◌≤◌, Bool, true, false, not, ◌&&◌, eqb, leb, List, [], ◌∷◌, length, get_or, drop, Some, None, Option, sym, refl, ap, ◌∙◌, inl, inr, arith, length-drop, get_or-drop}
use Rattle.std.specs.Option.{is_some}
use Rattle.std.specs.List.{list_all}
use Rattle.std.proofs.lemmas.Bool.{eq-eqb, ne_eqb, eqb-true, eqb-false, le-leb, lt-leb, leb-true, and_from, and_right, and_parts, not-true, not-false}
use Rattle.std.proofs.lemmas.List.Folds.{list_all_at}
use Rattle.store.specs.Rows.{zero_from}
use Rattle.plan.specs.Filling.{first, Spots}
use Rattle.plan.specs.Truths.{line_fits, over}
use Rattle.plan.proofs.Firsts.{before_first, at_first}

all_zero : (xs : List ℕ) → ((k : ℕ) → k < length xs → get_or xs k 0 ≡ 0) → list_all (eqb 0) xs ≡ true
all_zero [] h = refl
all_zero (x ∷ xs) h = and_from (eqb 0 x) (list_all (eqb 0) xs) (eq-eqb 0 x (sym (h 0 (omega arith)))) (all_zero xs (λ k l. h (suc k) (omega arith)))

module _ (width : ℕ) (columns : List ℕ) where
  pub over_early : (k : ℕ) → k < width → over width columns k ≡ false
  over_early k h = ap (λ b. b && not (eqb (get_or columns k 0) 0)) (lt-leb width k h)

  pub over_late : (k : ℕ) → width ≤ k → not (eqb (get_or columns k 0) 0) ≡ over width columns k
  over_late k h = ap (λ b. b && not (eqb (get_or columns k 0) 0)) (sym (le-leb width k h))

  -- eight columns of which none is over are zero from the width on
  none_over : length columns ≡ 8 → first (over width columns) (length columns) ≡ length columns → line_fits width columns ≡ true
  none_over eight none = and_from (eqb (length columns) 8) (zero_from width columns) (eq-eqb (length columns) 8 eight) (all_zero (drop width columns) (λ k l.
      let inside : width + k < length columns = omega (arith, length-drop width columns) in
      let zero : not (eqb (get_or columns (width + k) 0) 0) ≡ false = over_late (width + k) (omega arith) ∙ before_first (over width columns) (length columns) (length columns) none (width + k) inside in
      get_or-drop width columns k 0 ∙ eqb-true (get_or columns (width + k) 0) 0 (not-false (eqb (get_or columns (width + k) 0) 0) zero)))

  -- with one that is over they are not
  one_over : (k : ℕ) → k < length columns → over width columns k ≡ true → line_fits width columns ≡ false
  one_over k inside h =
      let (late, some) = and_parts (leb width k) (not (eqb (get_or columns k 0) 0)) h in
      let from : width ≤ k = leb-true width k late in
      let at : get_or (drop width columns) (k - width) 0 ≡ get_or columns k 0 = get_or-drop width columns (k - width) 0 ∙ (let n : width + (k - width) ≡ k = omega arith in ap (λ i. get_or columns i 0) n) in
      and_right (eqb (length columns) 8) (zero_from width columns) (list_all_at (eqb 0) (drop width columns) (k - width) 0 (omega (arith, length-drop width columns))
      (ne_eqb 0 (get_or (drop width columns) (k - width) 0) (λ e. eqb-false (get_or columns k 0) 0 (not-true (eqb (get_or columns k 0) 0) some) (sym (e ∙ at)))))

  pub fits_if : length columns ≡ 8 → (r : Option ℕ) → Spots (over width columns) (length columns) r → (b : Bool) → is_some r ≡ not b → b ≡ line_fits width columns
  fits_if eight None none b e = not-false b (sym e) ∙ sym (none_over eight none)
  fits_if eight (Some k) (is, inside) b e = elim (at_first (over width columns) (length columns)) [
    | inl f ↦ absurd (omega arith)
    | inr h ↦ not-true b (sym e) ∙ sym (one_over k inside (ap (over width columns) (sym is) ∙ h.1))
  ]
