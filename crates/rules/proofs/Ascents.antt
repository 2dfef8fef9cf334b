-- Lists of places: what is in them, and their one ascending order.
use Rattle.std.specs.Prelude.{◌≡◌, ℕ, ◌<◌, true, List, [], ◌∷◌, nat_eq, nat_lt, refl}
use Rattle.std.proofs.Common.{sym, ap₂, subst, inl, inr, arith}
use mathlib.Core.List.Memᴰ
use mathlib.Core.List.{Memᴰ}
use Rattle.std.proofs.lemmas.Bool.{and_parts, ltb-true, eqb-true, eq-eqb}
use Rattle.store.specs.Lists.{any, all}
use Rattle.store.proofs.Tests.{any_pick, any_put, all_at, same_tests}
use Rattle.rules.specs.Listing.{ascending}
use Rattle.rules.specs.Choosing.{SameSet}
use Rattle.rules.specs.Laws.{OneOrder}

pub place_in : (p : ℕ) (places : List ℕ) → any (nat_eq p) places ≡ true → Memᴰ p places
place_in p places h = let (q, m, e) = any_pick (nat_eq p) places h in subst (λ x. Memᴰ x places) (sym (eqb-true p q e)) m

pub place_has : {p : ℕ} {places : List ℕ} → Memᴰ p places → any (nat_eq p) places ≡ true
place_has {p} m = any_put (nat_eq p) m (eq-eqb p p refl)

-- lists that each have what the other has
pub same_set : (a b : List ℕ) → ((p : ℕ) → Memᴰ p a → Memᴰ p b) → ((p : ℕ) → Memᴰ p b → Memᴰ p a) → SameSet a b
same_set a b f g p = same_tests (any (nat_eq p) a) (any (nat_eq p) b) (λ h. place_has (f p (place_in p a h))) (λ h. place_has (g p (place_in p b h)))

pub member_of : (a b : List ℕ) → SameSet a b → (p : ℕ) → Memᴰ p a → Memᴰ p b
member_of a b same p m = place_in p b (subst (λ t. t ≡ true) (same p) (place_has m))

-- what stands behind the head of an ascending list is above it
behind : (x p : ℕ) (xs : List ℕ) → ascending (x ∷ xs) ≡ true → Memᴰ p xs → x < p
behind x p xs h m = ltb-true x p (all_at (nat_lt x) m (and_parts (all (nat_lt x) xs) (ascending xs) h).0)

tail_in : (x y : ℕ) (xs ys : List ℕ) → x ≡ y → ascending (x ∷ xs) ≡ true → ((p : ℕ) → Memᴰ p (x ∷ xs) → Memᴰ p (y ∷ ys)) → (p : ℕ) → Memᴰ p xs → Memᴰ p ys
tail_in x y xs ys e h f p m = elim (Memᴰ.cases_cons (f p (Memᴰ.tail m))) [ inl k ↦ absurd (omega (arith, behind x p xs h m)) | inr n ↦ n ]

one_list : (xs ys : List ℕ) → ascending xs ≡ true → ascending ys ≡ true → ((p : ℕ) → Memᴰ p xs → Memᴰ p ys) → ((p : ℕ) → Memᴰ p ys → Memᴰ p xs) → xs ≡ ys
one_list [] [] a b f g = refl
one_list [] (y ∷ ys) a b f g = absurd (Memᴰ.not-nil (g y (Memᴰ.head refl)))
one_list (x ∷ xs) [] a b f g = absurd (Memᴰ.not-nil (f x (Memᴰ.head refl)))
one_list (x ∷ xs) (y ∷ ys) a b f g =
    let same : x ≡ y = elim (Memᴰ.cases_cons (f x (Memᴰ.head refl))) [
      | inl e ↦ e
      | inr m ↦ elim (Memᴰ.cases_cons (g y (Memᴰ.head refl))) [ inl e ↦ sym e | inr n ↦ omega (arith, behind y x ys b m, behind x y xs a n) ]
    ] in
    ap₂ ◌∷◌ same (one_list xs ys (and_parts (all (nat_lt x) xs) (ascending xs) a).1 (and_parts (all (nat_lt y) ys) (ascending ys) b).1
    (tail_in x y xs ys same a f) (tail_in y x ys xs (sym same) b g))

pub one_order : OneOrder
one_order a b up vp same = one_list a b up vp (member_of a b same) (member_of b a (λ p. sym (same p)))
