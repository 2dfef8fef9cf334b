-- The first number below n that passes a test.
use Rattle.std.proofs.Common.{◌≡◌, ℕ, zero, suc, ◌<◌, ◌≤◌, Bool, true, false, ◌⊎◌, List, length, get_or, Some, None, Ok, Err, Option, Result, MatchOption, MatchResult, sym, refl, ap, ◌∙◌, zero-add, subst, inl, inr, arith}
use Rattle.std.specs.Bool.{⊤}
use Rattle.std.specs.declared.ops.Range.{Range}
use Rattle.std.specs.Fn.{Called, CalledAt}
use Rattle.std.specs.Iterator.{YieldsThen}
use Rattle.std.specs.List.{AllWithin, FoldsTo, HoldsAt, enumerate_from}
use Rattle.std.proofs.iter.Yields.{nat_range_steps}
use Rattle.std.proofs.lemmas.Bool.{cases_Bool, cases_lt}
use Rattle.std.proofs.lemmas.Iterator.{YieldsList, IsFirst-from_position, first_from_Range}
use Rattle.std.proofs.lemmas.List.FromFn.{length-enumerate_from, get_or-enumerate_from}
use denote.Param.Members.{Mut}
use denote.Ref.{Bor}
use Rattle.plan.specs.Filling.{first, Spots}

-- one that passes, and none before it does
pub first_is_lem : (test : ℕ → Bool) (n k : ℕ) → k < n → test k ≡ true → ((j : ℕ) → j < k → test j ≡ false) → first test n ≡ k
first_is_lem test zero k l h none = absurd (omega arith)
first_is_lem test (suc n) zero l h none = rw h
first_is_lem test (suc n) (suc k) l h none = rw (none 0 (omega arith)) (ap suc (first_is_lem (λ j. test (suc j)) n k (omega arith) h (λ j i. none (suc j) (omega arith))))

pub first_none : (test : ℕ → Bool) (n : ℕ) → ((j : ℕ) → j < n → test j ≡ false) → first test n ≡ n
first_none test zero none = refl
first_none test (suc n) none = rw (none 0 (omega arith)) (ap suc (first_none (λ j. test (suc j)) n (λ j i. none (suc j) (omega arith))))

-- none before the first passes
pub before_first : (test : ℕ → Bool) (n k : ℕ) → first test n ≡ k → (j : ℕ) → j < k → test j ≡ false
before_first test zero k e j l = absurd (omega arith)
before_first test (suc n) k e zero l = elim (cases_Bool (test 0)) [
  | inl t ↦ absurd (let f : first test (suc n) ≡ 0 = rw t in omega arith)
  | inr t ↦ t
]
before_first test (suc n) k e (suc j) l = elim (cases_Bool (test 0)) [
  | inl t ↦ absurd (let f : first test (suc n) ≡ 0 = rw t in omega arith)
  | inr t ↦ let f : first test (suc n) ≡ suc (first (λ i. test (suc i)) n) = rw t in before_first (λ i. test (suc i)) n (first (λ i. test (suc i)) n) refl j (omega arith)
]

-- the first is n, or passes
pub at_first : (test : ℕ → Bool) (n : ℕ) → (first test n ≡ n) ⊎ ((first test n < n) × (test (first test n) ≡ true))
at_first test zero = inl refl
at_first test (suc n) = elim (cases_Bool (test 0)) [
  | inl t ↦ inr (let f : first test (suc n) ≡ 0 = rw t in (omega arith, ap test f ∙ t))
  | inr t ↦
      let f : first test (suc n) ≡ suc (first (λ i. test (suc i)) n) = rw t in
      elim (at_first (λ i. test (suc i)) n) [ inl e ↦ inl (f ∙ ap suc e) | inr h ↦ inr (omega (arith, h.0), ap test f ∙ h.1) ]
]

-- what a loop that looks for the first tells, where it stops
pub spots_at : (test : ℕ → Bool) (n k : ℕ) → k < n → test k ≡ true → ((j : ℕ) → j < k → test j ≡ false) → (first test n ≡ k) × (k < n)
spots_at test n k l h none = (first_is_lem test n k l h none, l)

-- what a search through a range tells, if its closure is the test from the range's start on, and nothing passes before that
module _ (test seen : ℕ → Bool) (s u : Range ℕ) (r : Option ℕ) where
  pub spots_from_find : {F : Type 0} {g : Mut F (Bor ℕ × Unit {0}) Bool} {f : F}
      → (xs : List ℕ) × (j : F) × YieldsThen nat_range_steps s xs r u × FoldsTo (λ p x q. CalledAt g p x false q) f xs j × MatchOption r ⊤ (λ x. (h : F) × CalledAt g j x true h)
      → ((x : ℕ) (b : Bool) (q : F) → CalledAt g f x b q → (q ≡ f) × (b ≡ seen x))
      → ((k : ℕ) → s.start ≤ k → seen k ≡ test k) → ((k : ℕ) → k < s.start → test k ≡ false) → Spots test s.end r
  spots_from_find {f = f} ran is same early = spots r (first_from_Range s u f r (λ x. seen x ≡ true) (λ x. seen x ≡ false) ran (λ x q k. sym (is x true q k).1) (λ x q k. ((is x false q k).0, sym (is x false q k).1)))
    where
      none_before : (i : ℕ) → ((k : ℕ) → s.start ≤ k → k < i → seen k ≡ false) → (k : ℕ) → k < i → test k ≡ false
      none_before i none k h = elim (cases_lt k s.start) [ inl l ↦ early k l | inr l ↦ sym (same k l) ∙ none k l h ]

      spots : (o : Option ℕ) → MatchOption o ((k : ℕ) → s.start ≤ k → k < s.end → seen k ≡ false) (λ i. (s.start ≤ i) × (i < s.end) × (seen i ≡ true) × ((k : ℕ) → s.start ≤ k → k < i → seen k ≡ false)) → Spots test s.end o
      spots None none = first_none test s.end (none_before s.end none)
      spots (Some i) (from, to, passes, none) = spots_at test s.end i to (sym (same i from) ∙ passes) (none_before i none)

-- what a search through a list's things with their places tells, if its closure is the test of a place by the thing there
module _ {A : Type 0} (test : ℕ → Bool) (seen : ℕ × A → Bool) (d : A) (xs : List A) (r : Option ℕ) where
  pub spots_from_position : {S T F : Type 0} {steps : S → Option T → S → Type 0} {v : T → ℕ × A} {g : Mut F (T × Unit {0}) Bool} {s : S} {f : F} (u : S)
      → (ys : List T) × (o : Option T) × (j : F) × YieldsThen steps s ys o u × FoldsTo (λ p x q. Called g p (x, tt) false q) f ys j × MatchOption o (r ≡ None) (λ x. (r ≡ Some (length ys)) × ((h : F) × Called g j (x, tt) true h))
      → YieldsList steps v s (enumerate_from 0 xs) → ((x : T) (b : Bool) (q : F) → Called g f (x, tt) b q → (q ≡ f) × (b ≡ seen (v x)))
      → ((k : ℕ) → k < length xs → seen (k, get_or xs k d) ≡ test k) → Spots test (length xs) r
  spots_from_position {v = v} {f = f} u ran road is same =
      spots r (IsFirst-from_position u f r (λ p. seen p ≡ true) (λ p. seen p ≡ false) ran road (λ x q k. sym (is x true q k).1) (λ x q k. ((is x false q k).0, sym (is x false q k).1)))
    where
      test_is : (b : Bool) (k : ℕ) → k < length xs → HoldsAt (λ p. seen p ≡ b) (enumerate_from 0 xs) k → test k ≡ b
      test_is b k h at = sym (same k h) ∙ ap (λ (n : ℕ). seen (n, get_or xs k d)) (sym (zero-add k)) ∙ sym (ap seen (get_or-enumerate_from 0 xs k (0, d) h)) ∙ at (0, d)

      spots : (o : Option ℕ) → MatchOption o (AllWithin (λ p. seen p ≡ false) (enumerate_from 0 xs) 0 (length (enumerate_from 0 xs))) (λ i. (i < length (enumerate_from 0 xs)) × HoldsAt (λ p. seen p ≡ true) (enumerate_from 0 xs) i × AllWithin (λ p. seen p ≡ false) (enumerate_from 0 xs) 0 i) → Spots test (length xs) o
      spots None none = first_none test (length xs) (λ j h. test_is false j h (λ e. none j e (omega arith) (omega (arith, length-enumerate_from 0 xs))))
      spots (Some i) (to, passes, none) =
          let l : i < length xs = omega (arith, length-enumerate_from 0 xs) in
          spots_at test (length xs) i l (test_is true i l passes) (λ j h. test_is false j (omega arith) (λ e. none j e (omega arith) h))

-- the same with the number found as an error, as map_or(Ok(()), Err) gives it
pub spots_as_error : {u : Unit {0}} (test : ℕ → Bool) (n : ℕ) (o : Option ℕ) (r : Result (Unit {0}) ℕ) → MatchOption o (r ≡ Ok u) (λ k. r ≡ Err k) → Spots test n o → MatchResult r (λ _. Spots test n None) (λ k. Spots test n (Some k))
spots_as_error test n None r is spots = subst (λ x. MatchResult x (λ _. Spots test n None) (λ k. Spots test n (Some k))) (sym is) spots
spots_as_error test n (Some k) r is spots = subst (λ x. MatchResult x (λ _. Spots test n None) (λ k. Spots test n (Some k))) (sym is) spots
