-- What `entered` does to a list: order, length and members. Assumes nothing.
use Rattle.std.proofs.Common.{◌≡◌, suc, ◌+◌, true, false, ◌⊎◌, List, [], ◌∷◌, length, Ordering, Less, Equal, Greater, refl, ap, subst, inl, inr, ⊎_elim, arith}
use mathlib.Core.List.Memᴰ
use mathlib.Core.List.{Memᴰ}
use Rattle.std.specs.Ordering.{is_eq}
use Rattle.std.specs.List.{AllByRecursion as All}
use Rattle.std.proofs.ByRecursion.{All-weaker}
use Rattle.std.proofs.lemmas.Bool.{both_ways, or_parts, or_cases, or_from, cases_Bool}
use Rattle.std.specs.Cmp.{IsTotalOrder}
use Rattle.ordered.specs.Order.{rises, listed, pick, entered}
use Rattle.ordered.proofs.Ascending.{head_first, tail_rises, rises_cons}
use Rattle.ordered.proofs.Comparing.{turned}

-- the three ways that a choice by an answer can go
pub by_answer : {A : Type 0} (o : Ordering) (a b c : A) (P : A → Type 0) → (o ≡ Less → P a) → (o ≡ Equal → P b) → (o ≡ Greater → P c) → P (pick o a b c)
by_answer Less a b c P f g h = f refl
by_answer Equal a b c P f g h = g refl
by_answer Greater a b c P f g h = h refl

module _ {X : Type 0} (order : X → X → Ordering) where
  all_entered : (P : X → Type 0) (x : X) (xs : List X) → P x → All P xs → All P (entered order x xs)
  all_entered P x [] p h = (p, tt)
  all_entered P x (y ∷ ys) p h = by_answer (order y x) _ _ _ (All P) (λ _. (h.0, all_entered P x ys p h.1)) (λ _. h) (λ _. (p, h))

  -- a new element makes the list one longer
  pub length_entered : (x : X) (xs : List X) → listed order x xs ≡ false → length (entered order x xs) ≡ length xs + 1
  length_entered x [] new = refl
  length_entered x (y ∷ ys) new =
      let parts = or_parts (is_eq (order y x)) (listed order x ys) new in
      by_answer (order y x) _ _ _ (λ l. length l ≡ suc (length ys) + 1)
      (λ _. omega (arith, length_entered x ys parts.1))
      (λ equal. absurd (both_ways _ parts.0 (ap is_eq equal)))
      (λ _. omega arith)

  pub member_new : (x : X) (xs : List X) → listed order x xs ≡ false → Memᴰ x (entered order x xs)
  member_new x [] new = Memᴰ.head refl
  member_new x (y ∷ ys) new =
      let parts = or_parts (is_eq (order y x)) (listed order x ys) new in
      by_answer (order y x) _ _ _ (Memᴰ x)
      (λ _. Memᴰ.tail (member_new x ys parts.1))
      (λ equal. absurd (both_ways _ parts.0 (ap is_eq equal)))
      (λ _. Memᴰ.head refl)

  pub member_old : (x z : X) (xs : List X) → Memᴰ z xs → Memᴰ z (entered order x xs)
  member_old x z [] m = Memᴰ.tail m
  member_old x z (y ∷ ys) m = by_answer (order y x) _ _ _ (Memᴰ z)
      (λ _. ⊎_elim (λ e. Memᴰ.head e) (λ n. Memᴰ.tail (member_old x z ys n)) (Memᴰ.cases_cons m))
      (λ _. m)
      (λ _. Memᴰ.tail m)

  -- what is in the list was there or is x
  pub member_cases : (x z : X) (xs : List X) → Memᴰ z (entered order x xs) → (z ≡ x) ⊎ Memᴰ z xs
  member_cases x z [] m = Memᴰ.cases_cons m
  member_cases x z (y ∷ ys) m = by_answer (order y x) _ _ _ (λ l. Memᴰ z l → (z ≡ x) ⊎ Memᴰ z (y ∷ ys))
      (λ _ m'. ⊎_elim (λ e. inr (Memᴰ.head e)) (λ n. ⊎_elim inl (λ k. inr (Memᴰ.tail k)) (member_cases x z ys n)) (Memᴰ.cases_cons m'))
      (λ _. inr)
      (λ _. Memᴰ.cases_cons)
      m

module _ {X : Type 0} {order : X → X → Ordering} (laws : IsTotalOrder order) where
  -- what comes after y comes after what is before y
  all_after : (x y : X) (ys : List X) → order y x ≡ Greater → All (λ z. order y z ≡ Less) ys → All (λ z. order x z ≡ Less) ys
  all_after x y ys greater = All-weaker (λ z. order y z ≡ Less) (λ z. order x z ≡ Less) (λ z. laws.trans x y z (turned laws y x Greater greater)) ys

  pub rises_entered : (x : X) (xs : List X) → rises order xs ≡ true → rises order (entered order x xs) ≡ true
  rises_entered x [] up = refl
  rises_entered x (y ∷ ys) up =
      let after = head_first order y ys up in
      by_answer (order y x) _ _ _ (λ l. rises order l ≡ true)
      (λ less. rises_cons order y (entered order x ys) (all_entered order (λ z. order y z ≡ Less) x ys less after) (rises_entered x ys (tail_rises order y ys up)))
      (λ _. up)
      (λ greater. rises_cons order x (y ∷ ys) (turned laws y x Greater greater, all_after x y ys greater after) up)

  -- nothing that comes after x is equal to it
  unlisted : (x : X) (ys : List X) → All (λ y. order x y ≡ Less) ys → listed order x ys ≡ false
  unlisted x [] h = refl
  unlisted x (y ∷ ys) h = or_from _ _ (ap is_eq (turned laws x y Less h.0)) (unlisted x ys h.1)

  -- a list that has an equal element stays as it is
  pub entered_listed : (x : X) (xs : List X) → rises order xs ≡ true → listed order x xs ≡ true → entered order x xs ≡ xs
  entered_listed x [] up old = absurd (both_ways _ refl old)
  entered_listed x (y ∷ ys) up old =
      let where_found = or_cases (is_eq (order y x)) (listed order x ys) old in
      by_answer (order y x) _ _ _ (λ l. l ≡ y ∷ ys)
      (λ less. ap (λ l. y ∷ l) (entered_listed x ys (tail_rises order y ys up) (⊎_elim (λ e. absurd (both_ways _ (ap is_eq less) e)) (λ later. later) where_found)))
      (λ _. refl)
      (λ greater. absurd (⊎_elim
      (both_ways _ (ap is_eq greater))
      (both_ways _ (unlisted x ys (all_after x y ys greater (head_first order y ys up))))
      where_found))

  -- what is in the list was there, or is x and nothing equal to x was; `member_old` and `member_new` are the way back
  pub member_entered : (x z : X) (xs : List X) → rises order xs ≡ true → Memᴰ z (entered order x xs) → ((z ≡ x) × (listed order x xs ≡ false)) ⊎ Memᴰ z xs
  member_entered x z xs up m = ⊎_elim
      (λ old. inr (subst (Memᴰ z) (entered_listed x xs up old) m))
      (λ new. ⊎_elim (λ e. inl (e, new)) inr (member_cases order x z xs m))
      (cases_Bool (listed order x xs))
