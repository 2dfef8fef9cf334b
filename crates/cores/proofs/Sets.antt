-- Sets of places, and elements by their number.
use Rattle.std.proofs.Common.{◌≡◌, ℕ, zero, suc, ◌<◌, Bool, true, false, List, [], ◌∷◌, length, get_or, sym, refl, arith}
use mathlib.Core.List.{Memᴰ}
use Rattle.std.proofs.lemmas.Bool.{both_ways, not-true, not-false, not_from_false}
use Rattle.store.specs.Lists.{any, all}
use Rattle.store.proofs.Tests.{from_not, any_pick, any_put, all_at, all_put}
use Rattle.rules.proofs.Ascents.{place_in, place_has}
use Rattle.cores.specs.Backing.{one_of, clear_places}

-- each place of S is one of R
abbrev pub Within : (ℕ → Bool) → (ℕ → Bool) → Type 0
Within S R = (p : ℕ) → S p ≡ true → R p ≡ true

module _ (C : List (List ℕ)) where
  pub clear_no : (S : ℕ → Bool) {c : List ℕ} → Memᴰ c C → clear_places C S ≡ true → all S c ≡ true → ⊥
  clear_no S m h k = both_ways (any (all S) C) (not-true (any (all S) C) h) (any_put (all S) m k)

  pub clear_put : (S : ℕ → Bool) → ((c : List ℕ) → Memᴰ c C → all S c ≡ true → ⊥) → clear_places C S ≡ true
  clear_put S h = not_from_false (any (all S) C) (from_not (any (all S) C) (λ e. let (c, m, w) = any_pick (all S) C e in h c m w))

  -- a conflict that is whole in a set that is not clear
  pub whole_in : (S : ℕ → Bool) → clear_places C S ≡ false → (c : List ℕ) × Memᴰ c C × (all S c ≡ true)
  whole_in S h = any_pick (all S) C (not-false (any (all S) C) h)

  -- a smaller set is clear too
  pub clear_within : (S R : ℕ → Bool) → Within S R → clear_places C R ≡ true → clear_places C S ≡ true
  clear_within S R sub h = clear_put S (λ c m w. clear_no R m h (all_put R c (λ x k. sub x (all_at S k w))))

-- lists whose elements are all in the other
pub within_lists : (a b : List ℕ) → ((p : ℕ) → Memᴰ p a → Memᴰ p b) → Within (one_of a) (one_of b)
within_lists a b sub p h = place_has (sub p (place_in p a h))

module _ {A : Type 0} where
  pub member_at : (xs : List A) (k : ℕ) (d : A) → k < length xs → Memᴰ (get_or xs k d) xs
  member_at [] k d h = absurd (omega arith)
  member_at (x ∷ xs) zero d h = Memᴰ.head refl
  member_at (x ∷ xs) (suc k) d h = Memᴰ.tail (member_at xs k d (omega arith))

  pub number_of : {x : A} {xs : List A} (d : A) → Memᴰ x xs → (k : ℕ) × (k < length xs) × (get_or xs k d ≡ x)
  number_of d (Memᴰ.head e) = (zero, omega arith, sym e)
  number_of d (Memᴰ.tail m) = let (k, h, e) = number_of d m in (suc k, omega arith, e)
