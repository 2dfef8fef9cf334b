-- The first element of a list that passes a test.
use Rattle.std.proofs.Common.{◌≡◌, ℕ, zero, suc, ◌<◌, ◌≤◌, Bool, true, false, not, ◌&&◌, ◌||◌, eqb, ltb, List, [], ◌∷◌, ◌++◌, length, get_or, refl, inl, inr, arith}
use Rattle.std.proofs.lemmas.Bool.{both_ways, and_parts, and_from, or_cases, or_left, or_right, not-true, not_from_false, cases_Bool}
use Rattle.std.proofs.lemmas.Bool.Decides.{nat_tests}
use Rattle.store.specs.Lists.{any}
use Rattle.rules.specs.Listing.{first_is}

module _ {A : Type 0} (test : A → Bool) where
  pub first_put : (xs : List A) → any test xs ≡ true → (k : ℕ) × (first_is test xs k ≡ true)
  first_put [] h = absurd (both_ways false refl h)
  first_put (x ∷ xs) h = elim (cases_Bool (test x)) [
    | inl e ↦ (zero, e)
    | inr e ↦ let (k, f) = first_put xs (elim (or_cases (test x) (any test xs) h) [ inl t ↦ absurd (both_ways (test x) e t) | inr t ↦ t ]) in
        (suc k, and_from (not (test x)) (first_is test xs k) (not_from_false (test x) e) f)
  ]

  pub first_any : (xs : List A) (k : ℕ) → first_is test xs k ≡ true → any test xs ≡ true
  first_any [] k h = h
  first_any (x ∷ xs) zero h = or_left (test x) (any test xs) h
  first_any (x ∷ xs) (suc k) h = or_right (test x) (any test xs) (first_any xs k (and_parts (not (test x)) (first_is test xs k) h).1)

  -- it stands in the list, and passes
  pub first_at : (xs : List A) (k : ℕ) (d : A) → first_is test xs k ≡ true → (k < length xs) × (test (get_or xs k d) ≡ true)
  first_at [] k d h = absurd (both_ways false refl h)
  first_at (x ∷ xs) zero d h = (omega arith, h)
  first_at (x ∷ xs) (suc k) d h = let (l, t) = first_at xs k d (and_parts (not (test x)) (first_is test xs k) h).1 in (omega arith, t)

  -- none that passes stands before it
  pub first_least : (xs : List A) (j k : ℕ) (d : A) → first_is test xs j ≡ true → k < length xs → test (get_or xs k d) ≡ true → j ≤ k
  first_least [] j k d h l t = absurd (both_ways false refl h)
  first_least (x ∷ xs) zero k d h l t = omega arith
  first_least (x ∷ xs) (suc j) zero d h l t = absurd (both_ways (test x) (not-true (test x) (and_parts (not (test x)) (first_is test xs j) h).0) t)
  first_least (x ∷ xs) (suc j) (suc k) d h l t = omega (arith, first_least xs j k d (and_parts (not (test x)) (first_is test xs j) h).1 (omega arith) t)

  pub first_one : (xs : List A) (j k : ℕ) (d : A) → first_is test xs j ≡ true → first_is test xs k ≡ true → j ≡ k
  first_one xs j k d h i =
      let (jl, jt) = first_at xs j d h in
      let (kl, kt) = first_at xs k d i in
      omega (arith, first_least xs j k d h kl kt, first_least xs k j d i jl jt)

-- one more at the end
module _ {A : Type 0} (test : A → Bool) (last : A) where
  pub first_more : (xs : List A) (k : ℕ) → first_is test (xs ++ (last ∷ [])) k ≡ (first_is test xs k || (eqb k (length xs) && (not (any test xs) && test last)))
  first_more [] zero = refl
  first_more [] (suc k) = grind (arith, nat_tests)
  first_more (x ∷ xs) zero = grind (arith, nat_tests)
  first_more (x ∷ xs) (suc k) = let ih = first_more xs k in grind (arith, nat_tests)

  pub first_less : (xs : List A) (k : ℕ) → first_is test xs k ≡ (first_is test (xs ++ (last ∷ [])) k && ltb k (length xs))
  first_less [] k = grind (arith, nat_tests)
  first_less (x ∷ xs) zero = grind (arith, nat_tests)
  first_less (x ∷ xs) (suc k) = let ih = first_less xs k in grind (arith, nat_tests)
