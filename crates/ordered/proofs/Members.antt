-- Members of lists that ascend. Assumes nothing.
use Rattle.std.proofs.Common.{◌≡◌, true, ◌||◌, List, [], ◌∷◌, Ordering, Less, Equal, Greater, sym, refl, ap, ◌∙◌, subst, ⊎_elim, true≢false}
use mathlib.Core.List.Memᴰ
use mathlib.Core.List.{Memᴰ}
use Rattle.std.specs.Ordering.{is_eq}
use Rattle.std.specs.List.{AllByRecursion as All}
use Rattle.std.proofs.lemmas.Bool.{both_ways, or_left, or_right, or_cases}
use Rattle.std.proofs.lemmas.Cmp.{alike_right}
use Rattle.std.specs.Cmp.{IsTotalOrder}
use Rattle.ordered.specs.Order.{rises, listed}
use Rattle.ordered.proofs.Ascending.{head_first, tail_rises}
use Rattle.ordered.proofs.Comparing.{not_both}

is_equal : (o : Ordering) → is_eq o ≡ true → o ≡ Equal
is_equal Less e = absurd (true≢false (sym e))
is_equal Equal e = refl
is_equal Greater e = absurd (true≢false (sym e))

pub all_member : {X : Type 0} (P : X → Type 0) (z : X) (xs : List X) → All P xs → Memᴰ z xs → P z
all_member P z [] h m = absurd (Memᴰ.not-nil m)
all_member P z (x ∷ xs) h m = ⊎_elim (λ e. subst P (sym e) h.0) (all_member P z xs h.1) (Memᴰ.cases_cons m)

module _ {X : Type 0} (order : X → X → Ordering) where
  pub listed_from_member : (x y : X) (xs : List X) → Memᴰ y xs → order y x ≡ Equal → listed order x xs ≡ true
  listed_from_member x y [] m e = absurd (Memᴰ.not-nil m)
  listed_from_member x y (z ∷ zs) m e = ⊎_elim
      (λ same. or_left _ _ (ap (λ w. is_eq (order w x)) (sym same) ∙ ap is_eq e))
      (λ n. or_right _ _ (listed_from_member x y zs n e))
      (Memᴰ.cases_cons m)

  pub member_from_listed : (x : X) (xs : List X) → listed order x xs ≡ true → (y : X) × Memᴰ y xs × (order y x ≡ Equal)
  member_from_listed x [] old = absurd (both_ways _ refl old)
  member_from_listed x (z ∷ zs) old = ⊎_elim
      (λ here. (z, Memᴰ.head refl, is_equal _ here))
      (λ later. let found = member_from_listed x zs later in (found.0, Memᴰ.tail found.1, found.2))
      (or_cases (is_eq (order z x)) (listed order x zs) old)

  pub member_after : (x z : X) (xs : List X) → rises order (x ∷ xs) ≡ true → Memᴰ z xs → order x z ≡ Less
  member_after x z xs up = all_member (λ y. order x y ≡ Less) z xs (head_first order x xs up)

module _ {X : Type 0} {order : X → X → Ordering} (laws : IsTotalOrder order) where
  -- what is equal to x in the order is listed where x is
  pub listed_alike : (x z : X) (xs : List X) → order x z ≡ Equal → listed order x xs ≡ listed order z xs
  listed_alike x z [] e = refl
  listed_alike x z (y ∷ ys) e = λ i. is_eq (alike_right laws x z y e i) || listed_alike x z ys e i

  heads : (x y : X) (xs ys : List X) → rises order (x ∷ xs) ≡ true → rises order (y ∷ ys) ≡ true → Memᴰ x (y ∷ ys) → Memᴰ y (x ∷ xs) → x ≡ y
  heads x y xs ys a b m n = ⊎_elim
      (λ e. e)
      (λ later. ⊎_elim sym (λ too. absurd (not_both laws x y (member_after order x y xs a too) (member_after order y x ys b later))) (Memᴰ.cases_cons n))
      (Memᴰ.cases_cons m)

  tails : (x y z : X) (xs ys : List X) → rises order (x ∷ xs) ≡ true → x ≡ y → Memᴰ z xs → Memᴰ z (y ∷ ys) → Memᴰ z ys
  tails x y z xs ys a same m n = ⊎_elim
      (λ e. let less = subst (λ w. order x w ≡ Less) (e ∙ sym same) (member_after order x z xs a m) in absurd (not_both laws x x less less))
      (λ later. later)
      (Memᴰ.cases_cons n)

  -- lists that ascend and have the same members are the same
  pub same_members : (xs ys : List X) → rises order xs ≡ true → rises order ys ≡ true → ((z : X) → Memᴰ z xs → Memᴰ z ys) → ((z : X) → Memᴰ z ys → Memᴰ z xs) → xs ≡ ys
  same_members [] [] a b f g = refl
  same_members [] (y ∷ ys) a b f g = absurd (Memᴰ.not-nil (g y (Memᴰ.head refl)))
  same_members (x ∷ xs) [] a b f g = absurd (Memᴰ.not-nil (f x (Memᴰ.head refl)))
  same_members (x ∷ xs) (y ∷ ys) a b f g =
      let same = heads x y xs ys a b (f x (Memᴰ.head refl)) (g y (Memᴰ.head refl)) in
      let rest = same_members xs ys (tail_rises order x xs a) (tail_rises order y ys b)
      (λ z m. tails x y z xs ys a same m (f z (Memᴰ.tail m)))
      (λ z m. tails y x z ys xs b (sym same) m (g z (Memᴰ.tail m))) in
      λ i. same i ∷ rest i
