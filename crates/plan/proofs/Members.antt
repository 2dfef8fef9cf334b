-- Membership in the lists of lines and rows.
use Rattle.std.proofs.Common.{◌≡◌, ℕ, Bool, true, false, cond, List, [], ◌∷◌, ◌++◌, map, filter, sym, refl, subst, inl, inr}
use mathlib.Core.List.Memᴰ
use mathlib.Core.List.{Memᴰ}
use Rattle.std.specs.List.{flat_map}
use Rattle.store.specs.Lists.{same_numbers}
use Rattle.store.specs.Rows.{same_row}
use Rattle.store.specs.declared.row.Row.{Row}
use Rattle.store.proofs.Tests.{any_pick, any_put}
use Rattle.store.proofs.Alike.{same_numbers_is, same_numbers_refl, same_row_is, same_row_refl}
use Rattle.plan.specs.Answers.{has, among, lines_by}
use Rattle.plan.specs.declared.node.Op.TheVariants.{Product}

module _ {A : Type 0} (p : A → Bool) where
  pub kept_put : {x : A} {xs : List A} → Memᴰ x xs → p x ≡ true → Memᴰ x (filter p xs)
  kept_put (Memᴰ.head {x = y} {xs = ys} e) h = let k : p y ≡ true = rw (← e) h in rw k (Memᴰ.head e)
  kept_put {x} (Memᴰ.tail {x = y} {xs = ys} m) h =
      elim (p y) as (λ b. Memᴰ x (cond b (y ∷ filter p ys) (filter p ys))) [ true ↦ Memᴰ.tail (kept_put m h) | false ↦ kept_put m h ]

  kept_step : {x : A} (y : A) (ys : List A) (b : Bool) → p y ≡ b → (Memᴰ x (filter p ys) → Memᴰ x ys × (p x ≡ true)) → Memᴰ x (cond b (y ∷ filter p ys) (filter p ys)) → Memᴰ x (y ∷ ys) × (p x ≡ true)
  kept_step y ys true e ih (Memᴰ.head f) = (Memᴰ.head f, rw f e)
  kept_step y ys true e ih (Memᴰ.tail n) = let (a, b) = ih n in (Memᴰ.tail a, b)
  kept_step y ys false e ih n = let (a, b) = ih n in (Memᴰ.tail a, b)

  pub kept_pick : {x : A} (xs : List A) → Memᴰ x (filter p xs) → Memᴰ x xs × (p x ≡ true)
  kept_pick [] m = elim m [ ]
  kept_pick (y ∷ ys) m = kept_step y ys (p y) refl (kept_pick ys) m

module _ {A B : Type 0} (f : A → List B) where
  joined_put : {x : A} {y : B} {xs : List A} → Memᴰ x xs → Memᴰ y (f x) → Memᴰ y (flat_map f xs)
  joined_put {y = y} (Memᴰ.head {x = z} {xs = zs} e) n = Memᴰ.append_left (flat_map f zs) (subst (λ w. Memᴰ y (f w)) e n)
  joined_put (Memᴰ.tail {x = z} m) n = Memᴰ.append_right (f z) (joined_put m n)

  joined_pick : {y : B} (xs : List A) → Memᴰ y (flat_map f xs) → (x : A) × Memᴰ x xs × Memᴰ y (f x)
  joined_pick [] m = elim m [ ]
  joined_pick (x ∷ xs) m = elim (Memᴰ.append_cases (f x) m) [
    | inl n ↦ (x, Memᴰ.head refl, n)
    | inr n ↦ let (z, a, b) = joined_pick xs n in (z, Memᴰ.tail a, b)
  ]

-- a line of a product is a left line followed by a right one
pub pairs_put : {ps qs : List (List ℕ)} {u v : List ℕ} → Memᴰ u ps → Memᴰ v qs → Memᴰ (u ++ v) (lines_by Product ps qs)
pairs_put {qs = qs} {u = u} i j = joined_put (λ first. map (λ next. first ++ next) qs) i (Memᴰ.map (λ (next : List ℕ). u ++ next) j)

pub pairs_pick : (ps qs : List (List ℕ)) (t : List ℕ) → Memᴰ t (lines_by Product ps qs) → (u : List ℕ) × (v : List ℕ) × Memᴰ u ps × Memᴰ v qs × (u ++ v ≡ t)
pairs_pick ps qs t m =
    let (u, i, n) = joined_pick (λ first. map (λ next. first ++ next) qs) ps m in
    let (v, j, e) = Memᴰ.of_map (λ (next : List ℕ). u ++ next) qs n in
    (u, v, i, j, e)

pub line_in : (t : List ℕ) (ts : List (List ℕ)) → has ts t ≡ true → Memᴰ t ts
line_in t ts h = let (s, m, e) = any_pick (same_numbers t) ts h in subst (λ u. Memᴰ u ts) (sym (same_numbers_is t s e)) m

pub line_has : {t : List ℕ} {ts : List (List ℕ)} → Memᴰ t ts → has ts t ≡ true
line_has {t} m = any_put (same_numbers t) m (same_numbers_refl t)

pub row_in : (r : Row) (rs : List Row) → among rs r ≡ true → Memᴰ r rs
row_in r rs h = let (s, m, e) = any_pick (same_row r) rs h in subst (λ u. Memᴰ u rs) (sym (same_row_is r s e)) m

pub row_has : {r : Row} {rs : List Row} → Memᴰ r rs → among rs r ≡ true
row_has {r} m = any_put (same_row r) m (same_row_refl r)
