-- What the test of a word's spelling tells.
use Rattle.std.proofs.Common.{◌≡◌, ℕ, Bool, true, false, ◌⊎◌, inl, inr, List, refl}
use Rattle.store.specs.Lists.{same_numbers}
use Rattle.store.proofs.Alike.{same_numbers_decides}

-- it is passed by the same word, and by no other. The first part is there for `grind`, which matches it
pub told : (xs ys : List ℕ) → (same_numbers xs ys ≡ same_numbers xs ys) × (((same_numbers xs ys ≡ true) × (xs ≡ ys)) ⊎ ((same_numbers xs ys ≡ false) × (xs ≡ ys → ⊥)))
told xs ys = by (same_numbers xs ys) refl
  where
    by : (t : Bool) → same_numbers xs ys ≡ t → (same_numbers xs ys ≡ same_numbers xs ys) × (((same_numbers xs ys ≡ true) × (xs ≡ ys)) ⊎ ((same_numbers xs ys ≡ false) × (xs ≡ ys → ⊥)))
    by true e = (refl, inl (e, (same_numbers_decides xs ys).0 e))
    by false e = (refl, inr (e, λ same. let t = (same_numbers_decides xs ys).1 same in cc))
