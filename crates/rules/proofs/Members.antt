-- Membership in the lists that specs/ builds.
use Rattle.std.proofs.Common.{◌≡◌, Bool, true, false, cond, ◌&&◌, List, [], ◌∷◌, filter, sym, refl, subst, inl, inr}
use mathlib.Core.List.Memᴰ
use mathlib.Core.List.{Memᴰ}
use Rattle.std.specs.List.{flat_map}
use Rattle.std.proofs.lemmas.Bool.{and_parts, and_from}
use Rattle.store.specs.Rows.{same_row}
use Rattle.store.specs.declared.row.Row.{Row}
use Rattle.store.proofs.Tests.{any_pick, any_put, same_tests}
pub use Rattle.store.proofs.HeldRows.{same_row_sym}
use Rattle.store.proofs.Alike.{same_row_is, same_row_refl}
use Rattle.rules.specs.Sets.{Rows, among}

module _ {A : Type 0} (p : A → Bool) where
  pub kept_put : {x : A} {xs : List A} → Memᴰ x xs → p x ≡ true → Memᴰ x (filter p xs)
  kept_put (Memᴰ.head {x = y} {xs = ys} e) h =
      let k : p y ≡ true = rw (← e) h in rw k (Memᴰ.head e)
  kept_put {x} (Memᴰ.tail {x = y} {xs = ys} m) h =
      elim (p y) as (λ b. Memᴰ x (cond b (y ∷ filter p ys) (filter p ys))) [ true ↦ Memᴰ.tail (kept_put m h) | false ↦ kept_put m h ]

  kept_step : {x : A} (y : A) (ys : List A) (b : Bool) → p y ≡ b → (Memᴰ x (filter p ys) → Memᴰ x ys × (p x ≡ true)) → Memᴰ x (cond b (y ∷ filter p ys) (filter p ys)) → Memᴰ x (y ∷ ys) × (p x ≡ true)
  kept_step y ys true e ih (Memᴰ.head f) = (Memᴰ.head f, rw f e)
  kept_step y ys true e ih (Memᴰ.tail n) = let (a, b) = ih n in (Memᴰ.tail a, b)
  kept_step y ys false e ih n = let (a, b) = ih n in (Memᴰ.tail a, b)

  pub kept_pick : {x : A} (xs : List A) → Memᴰ x (filter p xs) → Memᴰ x xs × (p x ≡ true)
  kept_pick [] m = elim m [ ]
  kept_pick (y ∷ ys) m = kept_step y ys (p y) refl (kept_pick ys) m

module _ {A B : Type 0} (f : A → List B) where
  pub joined_put : {x : A} {y : B} {xs : List A} → Memᴰ x xs → Memᴰ y (f x) → Memᴰ y (flat_map f xs)
  joined_put {y = y} (Memᴰ.head {x = z} {xs = zs} e) n = Memᴰ.append_left (flat_map f zs) (subst (λ w. Memᴰ y (f w)) e n)
  joined_put (Memᴰ.tail {x = z} m) n = Memᴰ.append_right (f z) (joined_put m n)

  pub joined_pick : {y : B} (xs : List A) → Memᴰ y (flat_map f xs) → (x : A) × Memᴰ x xs × Memᴰ y (f x)
  joined_pick [] m = elim m [ ]
  joined_pick (x ∷ xs) m = elim (Memᴰ.append_cases (f x) m) [
    | inl n ↦ (x, Memᴰ.head refl, n)
    | inr n ↦ let (z, a, b) = joined_pick xs n in (z, Memᴰ.tail a, b)
  ]

pub row_in : (r : Row) (rs : List Row) → among rs r ≡ true → Memᴰ r rs
row_in r rs h = let (s, m, e) = any_pick (same_row r) rs h in subst (λ u. Memᴰ u rs) (sym (same_row_is r s e)) m

pub row_has : {r : Row} {rs : List Row} → Memᴰ r rs → among rs r ≡ true
row_has {r} m = any_put (same_row r) m (same_row_refl r)

-- the rows of a list that are in R
pub among_kept : (R : Rows) (rows : List Row) (r : Row) → among (filter R rows) r ≡ (among rows r && R r)
among_kept R rows r = same_tests (among (filter R rows) r) (among rows r && R r)
    (λ h. let (m, k) = kept_pick R rows (row_in r (filter R rows) h) in and_from (among rows r) (R r) (row_has m) k)
    (λ h. let (a, b) = and_parts (among rows r) (R r) h in row_has (kept_put R (row_in r rows a) b))
