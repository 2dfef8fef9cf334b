-- Lists that ascend: by head and tail, by places, and what a filter leaves. Assumes nothing.
use Rattle.std.proofs.Common.{◌≡◌, zero, suc, Bool, true, List, [], ◌∷◌, filter, Ordering, Less, Equal, Greater, sym, refl, ap, true≢false, arith}
use Rattle.std.specs.Ordering.{is_lt}
use Rattle.std.specs.List.{list_all, AllByRecursion as All}
use Rattle.std.proofs.ByRecursion.{All-get_or, All-from_get_or, all_kept_by}
use Rattle.std.proofs.lemmas.Bool.{and_parts, and_from, cond_both}
use Rattle.ordered.specs.Order.{rises, Rising}

is_less : (o : Ordering) → is_lt o ≡ true → o ≡ Less
is_less Less e = refl
is_less Equal e = absurd (true≢false (sym e))
is_less Greater e = absurd (true≢false (sym e))

module _ {X : Type 0} (order : X → X → Ordering) where
  all_less : (x : X) (ys : List X) → list_all (λ y. is_lt (order x y)) ys ≡ true → All (λ y. order x y ≡ Less) ys
  all_less x [] h = tt
  all_less x (y ∷ ys) h = (is_less _ (and_parts _ _ h).0, all_less x ys (and_parts _ _ h).1)

  less_all : (x : X) (ys : List X) → All (λ y. order x y ≡ Less) ys → list_all (λ y. is_lt (order x y)) ys ≡ true
  less_all x [] h = refl
  less_all x (y ∷ ys) h = and_from _ _ (ap is_lt h.0) (less_all x ys h.1)

  -- the first is before all others
  pub head_first : (x : X) (xs : List X) → rises order (x ∷ xs) ≡ true → All (λ y. order x y ≡ Less) xs
  head_first x xs up = all_less x xs (and_parts _ _ up).0

  pub tail_rises : (x : X) (xs : List X) → rises order (x ∷ xs) ≡ true → rises order xs ≡ true
  tail_rises x xs up = (and_parts _ _ up).1

  pub rises_cons : (x : X) (xs : List X) → All (λ y. order x y ≡ Less) xs → rises order xs ≡ true → rises order (x ∷ xs) ≡ true
  rises_cons x xs first up = and_from _ _ (less_all x xs first) up

  pub rising_from_rises : (xs : List X) → rises order xs ≡ true → Rising order xs
  rising_from_rises [] up i j d lt in-xs = absurd (omega arith)
  rising_from_rises (x ∷ xs) up i zero d lt in-xs = absurd (omega arith)
  rising_from_rises (x ∷ xs) up zero (suc j) d lt in-xs = All-get_or (λ y. order x y ≡ Less) xs j d (omega arith) (head_first x xs up)
  rising_from_rises (x ∷ xs) up (suc i) (suc j) d lt in-xs = rising_from_rises xs (tail_rises x xs up) i j d (omega arith) (omega arith)

  pub rises_from_rising : (xs : List X) → Rising order xs → rises order xs ≡ true
  rises_from_rising [] h = refl
  rises_from_rising (x ∷ xs) h = rises_cons x xs
      (All-from_get_or (λ y. order x y ≡ Less) xs x (λ i lt. h 0 (suc i) x (omega arith) (omega arith)))
      (rises_from_rising xs (λ i j d lt in-xs. h (suc i) (suc j) d (omega arith) (omega arith)))

  -- what passes a test still ascends
  pub rises_kept_by : (test : X → Bool) (xs : List X) → rises order xs ≡ true → rises order (filter test xs) ≡ true
  rises_kept_by test [] up = refl
  rises_kept_by test (x ∷ xs) up =
      let rest = rises_kept_by test xs (tail_rises x xs up) in
      cond_both (test x) _ _ (λ l. rises order l ≡ true)
      (λ _. rises_cons x (filter test xs) (all_kept_by test (λ y. order x y ≡ Less) xs (head_first x xs up)) rest)
      (λ _. rest)
