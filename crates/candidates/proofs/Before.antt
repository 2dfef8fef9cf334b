-- The order of lines.
use Rattle.std.proofs.Common.{◌≡◌, ℕ, zero, suc, ◌<◌, true, false, ◌⊎◌, List, [], ◌∷◌, ◌++◌, length, replicate, Less, Equal, Greater, sym, refl, ap, ◌∙◌, ap₂, inl, inr, arith}
use Rattle.std.specs.Cmp.{nat_cmp_is}
use Rattle.std.specs.Ordering.{is_lt, ordering_then, nat_cmp}
use Rattle.std.proofs.lemmas.Bool.{both_ways, cases_order, cases_Bool}
use Rattle.candidates.specs.Candidates.{before}
use Rattle.store.proofs.Tests.{from_not}
use Rattle.std.specs.Cmp.Lexicographic.{slice_cmp}

-- the first columns decide, or are equal
less_head : (x y : ℕ) (xs ys : List ℕ) → x < y → before (x ∷ xs) (y ∷ ys) ≡ true
less_head x y xs ys h = ap (λ o. is_lt (ordering_then o (slice_cmp nat_cmp xs ys))) (sym (nat_cmp_is x y Less h))

less_rest : (x y : ℕ) (xs ys : List ℕ) → x ≡ y → before xs ys ≡ true → before (x ∷ xs) (y ∷ ys) ≡ true
less_rest x y xs ys e h = ap (λ o. is_lt (ordering_then o (slice_cmp nat_cmp xs ys))) (sym (nat_cmp_is x y Equal e)) ∙ h

less_cases : (x y : ℕ) (xs ys : List ℕ) → before (x ∷ xs) (y ∷ ys) ≡ true → (x < y) ⊎ ((x ≡ y) × (before xs ys ≡ true))
less_cases x y xs ys h = elim (cases_order x y) [
  | inl e ↦ inr (e, ap (λ o. is_lt (ordering_then o (slice_cmp nat_cmp xs ys))) (nat_cmp_is x y Equal e) ∙ h)
  | inr o ↦ elim o [
    | inl l ↦ inl l
    | inr l ↦ absurd (both_ways false refl (ap (λ o. is_lt (ordering_then o (slice_cmp nat_cmp xs ys))) (nat_cmp_is x y Greater l) ∙ h))
  ]
]

pub irreflexive : (s : List ℕ) → before s s ≡ false
irreflexive [] = refl
irreflexive (x ∷ s) = ap (λ o. is_lt (ordering_then o (slice_cmp nat_cmp s s))) (sym (nat_cmp_is x x Equal refl)) ∙ irreflexive s

pub transitive : (s t u : List ℕ) → before s t ≡ true → before t u ≡ true → before s u ≡ true
transitive [] [] u h k = absurd (both_ways false refl h)
transitive [] (y ∷ t) [] h k = absurd (both_ways false refl k)
transitive [] (y ∷ t) (z ∷ u) h k = refl
transitive (x ∷ s) [] u h k = absurd (both_ways false refl h)
transitive (x ∷ s) (y ∷ t) [] h k = absurd (both_ways false refl k)
transitive (x ∷ s) (y ∷ t) (z ∷ u) h k = elim (less_cases x y s t h) [
  | inl a ↦ elim (less_cases y z t u k) [ inl b ↦ less_head x z s u (omega arith) | inr b ↦ less_head x z s u (omega (arith, b.0)) ]
  | inr a ↦ elim (less_cases y z t u k) [ inl b ↦ less_head x z s u (omega (arith, a.0)) | inr b ↦ less_rest x z s u (a.0 ∙ b.0) (transitive s t u a.1 b.1) ]
]

pub asymmetric : (s t : List ℕ) → before s t ≡ true → before t s ≡ false
asymmetric s t h = from_not (before t s) (λ k. both_ways (before s s) (irreflexive s) (transitive s t s h k))

pub same_if : (s t : List ℕ) → before s t ≡ false → before t s ≡ false → s ≡ t
same_if [] [] h k = refl
same_if [] (y ∷ t) h k = absurd (both_ways true h refl)
same_if (x ∷ s) [] h k = absurd (both_ways true k refl)
same_if (x ∷ s) (y ∷ t) h k = elim (cases_order x y) [
  | inl e ↦ ap₂ ◌∷◌ e (same_if s t (from_not (before s t) (λ b. both_ways (before (x ∷ s) (y ∷ t)) h (less_rest x y s t e b))) (from_not (before t s) (λ b. both_ways (before (y ∷ t) (x ∷ s)) k (less_rest y x t s (sym e) b))))
  | inr o ↦ absurd (elim o [ inl l ↦ both_ways (before (x ∷ s) (y ∷ t)) h (less_head x y s t l) | inr l ↦ both_ways (before (y ∷ t) (x ∷ s)) k (less_head y x t s l) ])
]

-- which of two lines is first, or that they are one
pub compared : (s t : List ℕ) → (before s t ≡ true) ⊎ ((s ≡ t) ⊎ (before t s ≡ true))
compared s t = elim (cases_Bool (before s t)) [
  | inl a ↦ inl a
  | inr a ↦ elim (cases_Bool (before t s)) [ inl b ↦ inr (inr b) | inr b ↦ inr (inl (same_if s t a b)) ]
]

-- lines in two parts
pub front_less : (a u b v : List ℕ) → length a ≡ length u → before a u ≡ true → before (a ++ b) (u ++ v) ≡ true
front_less [] [] b v e h = absurd (both_ways false refl h)
front_less [] (y ∷ u) b v e h = absurd (omega arith)
front_less (x ∷ a) [] b v e h = absurd (omega arith)
front_less (x ∷ a) (y ∷ u) b v e h = elim (less_cases x y a u h) [
  | inl l ↦ less_head x y (a ++ b) (u ++ v) l
  | inr l ↦ less_rest x y (a ++ b) (u ++ v) l.0 (front_less a u b v (omega arith) l.1)
]

pub front_same : (a b v : List ℕ) → before b v ≡ true → before (a ++ b) (a ++ v) ≡ true
front_same [] b v h = h
front_same (x ∷ a) b v h = less_rest x x (a ++ b) (a ++ v) refl (front_same a b v h)

pub front_cases : (a u b v : List ℕ) → length a ≡ length u → before (a ++ b) (u ++ v) ≡ true → (before a u ≡ true) ⊎ ((a ≡ u) × (before b v ≡ true))
front_cases [] [] b v e h = inr (refl, h)
front_cases [] (y ∷ u) b v e h = absurd (omega arith)
front_cases (x ∷ a) [] b v e h = absurd (omega arith)
front_cases (x ∷ a) (y ∷ u) b v e h = elim (less_cases x y (a ++ b) (u ++ v) h) [
  | inl l ↦ inl (less_head x y a u l)
  | inr l ↦ elim (front_cases a u b v (omega arith) l.1) [ inl k ↦ inl (less_rest x y a u l.0 k) | inr k ↦ inr (ap₂ ◌∷◌ l.0 k.0, k.1) ]
]

-- no line is before zeros
pub none_before_zeros : (d : List ℕ) (n : ℕ) → length d ≡ n → before d (replicate n 0) ≡ false
none_before_zeros [] n e = elim n as (λ m. length {A = ℕ} [] ≡ m → before [] (replicate m 0) ≡ false) [ zero ↦ λ _. refl | suc m ↦ λ e. absurd (omega arith) ] e
none_before_zeros (x ∷ d) zero e = absurd (omega arith)
none_before_zeros (x ∷ d) (suc n) e = from_not (before (x ∷ d) (replicate (suc n) 0)) (λ h. elim (less_cases x 0 d (replicate n 0) h) [
  | inl l ↦ omega arith
  | inr p ↦ both_ways (before d (replicate n 0)) (none_before_zeros d n (omega arith)) p.1
])
