-- Where the first of the named rows stand.
use Rattle.std.proofs.Common.{◌≡◌, ℕ, zero, suc, ◌<◌, ◌≤◌, true, ◌≢◌, List, [], ◌∷◌, ◌++◌, length, get_or, Some, None, Option, refl, ◌∙◌, ⊎_elim, arith, length-append}
use Rattle.std.proofs.Math.ListN.{get_or-append}
use Rattle.std.specs.List.{slice_get}
use Rattle.std.proofs.lemmas.Bool.{cases_eq, and_from}
use Rattle.std.proofs.lemmas.List.{get_or_push}
use Rattle.std.proofs.lemmas.List.Folds.{list_all-append}
use Rattle.store.specs.Store.{Store, FindSays}
use Rattle.store.specs.declared.row.Row.{Row}
use Rattle.cores.specs.Settling.{Located}
use Rattle.verdict.specs.LeafPlaces.{has_byte, leaves_have_bytes}

pub record Placed (s : Store) (named : List Row) (items : List (Option ℕ)) : Type 0 where
  pub few : length items ≤ length named
  pub each : (k : ℕ) → k < length items → (d : Row) → FindSays s (get_or named k d) (get_or items k None)
  pub near : leaves_have_bytes items ≡ true

got_within : (xs : List Row) (n : ℕ) (row : Row) → slice_get xs n ≡ Some row → n < length xs
got_within [] n row e = absurd (never e)
  where
    never : ◌≡◌ {A = Option Row} None (Some row) → ⊥
    never h = let z : ◌≡◌ {A = ℕ} 0 1 = cc in omega arith
got_within (x ∷ xs) zero row e = omega arith
got_within (x ∷ xs) (suc n) row e = let h = got_within xs n row e in omega arith

got_at : (xs : List Row) (n : ℕ) (row d : Row) → slice_get xs n ≡ Some row → get_or xs n d ≡ row
got_at [] n row d e = absurd (let h = got_within [] n row e in omega arith)
got_at (x ∷ xs) zero row d e = cc
got_at (x ∷ xs) (suc n) row d e = got_at xs n row d e

got_none : (xs : List Row) (n : ℕ) → slice_get xs n ≡ None → length xs ≤ n
got_none [] n e = omega arith
got_none (x ∷ xs) zero e = absurd (never e)
  where
    never : ◌≡◌ {A = Option Row} (Some x) None → ⊥
    never h = let z : ◌≡◌ {A = ℕ} 0 1 = cc in omega arith
got_none (x ∷ xs) (suc n) e = let h = got_none xs n e in omega arith

module _ (s : Store) (named : List Row) (items : List (Option ℕ)) (placed : Placed s named items) where
  -- one row more
  pub place_more : (row : Row) (place : Option ℕ) → slice_get named (length items) ≡ Some row → FindSays s row place → has_byte place ≡ true → Placed s named (items ++ place ∷ [])
  place_more row place got says byte = record {
    few = let h = got_within named (length items) row got in omega (arith, length-append items (place ∷ []));
    each = λ k h d. ⊎_elim
        (λ (e : k ≡ length items). rw (e, get_or_push items place None (length items) refl, got_at named (length items) row d got) says)
        (λ (ne : k ≢ length items). let lt : k < length items = omega (arith, length-append items (place ∷ [])) in rw (get_or-append items (place ∷ []) None k lt) (placed.each k lt d))
        (cases_eq k (length items));
    near = list_all-append has_byte items (place ∷ []) ∙ and_from _ _ placed.near (and_from _ _ byte refl);
  }

  -- no more
  pub place_end : slice_get named (length items) ≡ None → Located s named items
  place_end none =
      let past = got_none named (length items) none in
      let few = placed.few in
      record { long = omega arith; each = λ k h d. placed.each k (omega arith) d }
