-- Places before and after a row is put or struck.
use Rattle.std.proofs.Common.{◌≡◌, ℕ, ◌<◌, ◌≤◌, true, false, ◌&&◌, ltb, ◌≢◌, ◌⊎◌, List, length, get_or, set, replicate, is_some, Some, None, Option, sym, refl, ap, ◌∙◌, subst, ⊎_elim, arith, get_or-set_other, get_or-set_same}
use Rattle.std.proofs.lemmas.List.{get_or_past, get_or-replicate, length-replicate}
use Rattle.std.proofs.lemmas.List.Folds.{list_any_at}
use Rattle.std.proofs.lemmas.Bool.{both_ways, and_from}
use Rattle.store.specs.declared.row.Row.{Row}
use Rattle.store.specs.Lists.{any}
use Rattle.store.specs.Places.{OnceIn, FitIn}
use Rattle.store.specs.Rows.{arity_in, zero_from}
use Rattle.store.specs.Store.{is_row}
use Rattle.store.proofs.Alike.{same_row_refl}

pub cut : (p n : ℕ) → (p < n) ⊎ (n ≤ p)
cut p n = grind arith

pub same? : (p n : ℕ) → (p ≡ n) ⊎ (p ≢ n)
same? p n = grind arith

never : {row : Row} → ◌≡◌ {A = Option Row} None (Some row) → ⊥
never {row} e = let z : ◌≡◌ {A = ℕ} 0 1 = cc in omega arith

-- a place that has a row is one of the places
pub inside : (places : List (Option Row)) (p : ℕ) (row : Row) → get_or places p None ≡ Some row → p < length places
inside places p row e = ⊎_elim (λ lt. lt) (λ ge. absurd (never (sym (get_or_past places p None ge) ∙ e))) (cut p (length places))

-- a place that has the row shows that it is held
pub held_at : (places : List (Option Row)) (p : ℕ) (row : Row) → get_or places p None ≡ Some row → any (is_row row) places ≡ true
held_at places p row e = list_any_at (is_row row) places p None (inside places p row e) (ap (is_row row) e ∙ same_row_refl row)

-- a row that is not held stands nowhere
pub free_of : (places : List (Option Row)) (row : Row) → any (is_row row) places ≡ false → (p : ℕ) → get_or places p None ≡ Some row → ⊥
free_of places row none p e = both_ways _ none (held_at places p row e)

-- a list of empty places has nothing anywhere
nothing : (n p : ℕ) → get_or (replicate {A = Option Row} n None) p None ≡ None
nothing n p = ⊎_elim (λ lt. get_or-replicate n p None None lt) (λ ge. get_or_past (replicate n None) p None (omega (arith, length-replicate {A = Option Row} n None))) (cut p n)

pub once_none : (n : ℕ) → OnceIn (replicate n None)
once_none n p q h = absurd (both_ways _ (ap is_some (nothing n p)) h.0)

pub fit_none : (bytes : List ℕ) (n : ℕ) → FitIn bytes (replicate n None)
fit_none bytes n p row e = absurd (never (sym (nothing n p) ∙ e))

-- after a write to the place i, what another place has is what it had
module _ (places : List (Option Row)) (i : ℕ) (new : Option Row) (in-i : i < length places) where
  here : (p : ℕ) → p ≡ i → get_or (set places i new) p None ≡ new
  here p e = ap (λ (x : ℕ). get_or (set places i new) x None) e ∙ get_or-set_same places i new None in-i

  elsewhere : (p : ℕ) → p ≢ i → get_or (set places i new) p None ≡ get_or places p None
  elsewhere p ne = get_or-set_other places i p new None ne

  -- a write that brings no row that stands elsewhere keeps each row once
  once_set : ((p : ℕ) → is_some new ≡ true → get_or places p None ≡ new → ⊥) → OnceIn places → OnceIn (set places i new)
  once_set free once p q (some, same) = ⊎_elim
      (λ a. ⊎_elim (λ b. a ∙ sym b)
      (λ b. let e : new ≡ get_or places q None = sym (here p a) ∙ same ∙ elsewhere q b in absurd (free q (ap is_some (sym (here p a)) ∙ some) (sym e))) (same? q i))
      (λ a. ⊎_elim
      (λ b. let e : get_or places p None ≡ new = sym (elsewhere p a) ∙ same ∙ here q b in absurd (free p (ap is_some (sym e) ∙ ap is_some (sym (elsewhere p a)) ∙ some) e))
      (λ b. once p q (ap is_some (sym (elsewhere p a)) ∙ some, sym (elsewhere p a) ∙ same ∙ elsewhere q b))
      (same? q i))
      (same? p i)

  -- a write of a row that fits, or of none, keeps the rows fitting
  fit_set : (bytes : List ℕ) → ((row : Row) → new ≡ Some row → (ltb 0 (arity_in bytes row.relation) && zero_from (arity_in bytes row.relation) row.columns) ≡ true) → FitIn bytes places → FitIn bytes (set places i new)
  fit_set bytes fits all p row e = ⊎_elim (λ a. fits row (sym (here p a) ∙ e)) (λ a. all p row (sym (elsewhere p a) ∙ e)) (same? p i)

module _ (places : List (Option Row)) (i : ℕ) (in-i : i < length places) where
  pub once_put : (row : Row) → any (is_row row) places ≡ false → OnceIn places → OnceIn (set places i (Some row))
  once_put row none once = once_set places i (Some row) in-i (λ p s e. free_of places row none p e) once

  pub once_struck : OnceIn places → OnceIn (set places i None)
  once_struck once = once_set places i None in-i (λ p s e. both_ways _ refl s) once

  pub fit_put : (bytes : List ℕ) (row : Row) → ltb 0 (arity_in bytes row.relation) ≡ true → zero_from (arity_in bytes row.relation) row.columns ≡ true → FitIn bytes places → FitIn bytes (set places i (Some row))
  fit_put bytes row d z all = fit_set places i (Some row) in-i bytes (λ r e. let s : row ≡ r = cc in subst (λ x. (ltb 0 (arity_in bytes x.relation) && zero_from (arity_in bytes x.relation) x.columns) ≡ true) s (and_from _ _ d z)) all

  pub fit_struck : (bytes : List ℕ) → FitIn bytes places → FitIn bytes (set places i None)
  fit_struck bytes all = fit_set places i None in-i bytes (λ r e. absurd (never e)) all
