-- What is said of every reading of a few rows is said of the lists of rows that can be kept, and those can be gone through.
use Rattle.std.proofs.Common.{◌≡◌, Bool, true, false, not, cond, ◌&&◌, ◌||◌, List, [], ◌∷◌, filter, refl, ap, ◌∙◌, ap₂}
use mathlib.Core.List.{Memᴰ}
use Rattle.std.proofs.lemmas.Bool.{and_parts}
use Rattle.store.specs.Lists.{any, all}
use Rattle.store.specs.Rows.{same_row}
use Rattle.store.specs.declared.row.Row.{Row}
use Rattle.store.proofs.Tests.{all_at}
use Rattle.rules.specs.Sets.{Rows, among, with}
use Rattle.rules.specs.Readings.{clear, reading}
use Rattle.rules.proofs.Members.{row_has, among_kept}

module _ {A : Type 0} where
  -- whichever of the elements are kept, the list of these passes
  abbrev pub every : (List A → Bool) → List A → Bool
  every test [] = test []
  every test (x ∷ xs) = every (λ kept. test (x ∷ kept)) xs && every test xs

  pub every_at : (p : A → Bool) (test : List A → Bool) (xs : List A) → every test xs ≡ true → test (filter p xs) ≡ true
  every_at p test [] h = h
  every_at p test (x ∷ xs) h =
      let (a, b) = and_parts (every (λ kept. test (x ∷ kept)) xs) (every test xs) h in
      elim (p x) as (λ c. test (cond c (x ∷ filter p xs) (filter p xs)) ≡ true) [
        | true ↦ every_at p (λ kept. test (x ∷ kept)) xs a
        | false ↦ every_at p test xs b
      ]

  any_same : (p q : A → Bool) (xs : List A) → ((x : A) → Memᴰ x xs → p x ≡ q x) → any p xs ≡ any q xs
  any_same p q [] h = refl
  any_same p q (x ∷ xs) h = ap₂ ◌||◌ (h x (Memᴰ.head refl)) (any_same p q xs (λ y m. h y (Memᴰ.tail m)))

  all_same : (p q : A → Bool) (xs : List A) → ((x : A) → Memᴰ x xs → p x ≡ q x) → all p xs ≡ all q xs
  all_same p q [] h = refl
  all_same p q (x ∷ xs) h = ap₂ ◌&&◌ (h x (Memᴰ.head refl)) (all_same p q xs (λ y m. h y (Memᴰ.tail m)))

module _ (rows : List Row) (C : List (List Row)) (within : all (all (among rows)) C ≡ true) where
  clear_same : (S T : Rows) → ((r : Row) → among rows r ≡ true → S r ≡ T r) → clear C S ≡ clear C T
  clear_same S T same = ap not (any_same (all S) (all T) C (λ c m. all_same S T c (λ r n. same r (all_at (among rows) n (all_at (all (among rows)) m within)))))

  -- a reading is told by the rows that it keeps
  reading_same : (S T : Rows) → ((r : Row) → among rows r ≡ true → S r ≡ T r) → reading rows C S ≡ reading rows C T
  reading_same S T same =
      ap₂ ◌&&◌ (clear_same S T same) (all_same (λ r. S r || not (clear C (with r S))) (λ r. T r || not (clear C (with r T))) rows (λ r m.
      ap₂ (λ a b. a || not b) (same r (row_has m)) (clear_same (with r S) (with r T) (λ x h. ap (λ b. same_row x r || b) (same x h)))))

  pub by_kept : (R : Rows) → reading rows C R ≡ true → reading rows C (among (filter R rows)) ≡ true
  by_kept R ok = reading_same (among (filter R rows)) R (λ r h. among_kept R rows r ∙ ap (λ b. b && R r) h) ∙ ok
