-- From a test on a list to its elements, and back.
use Rattle.std.proofs.Common.{◌≡◌, Bool, true, false, List, [], ◌∷◌, sym, refl, inl, inr}
use mathlib.Core.List.{Memᴰ}
use Rattle.std.proofs.lemmas.Bool.{both_ways, and_parts, and_from, or_cases, or_left, or_right}
use Rattle.store.specs.Lists.{any, all}

pub from_not : (b : Bool) → (b ≡ true → ⊥) → b ≡ false
from_not true h = absurd (h refl)
from_not false h = refl

pub same_tests : (a b : Bool) → (a ≡ true → b ≡ true) → (b ≡ true → a ≡ true) → a ≡ b
same_tests true b h k = sym (h refl)
same_tests false true h k = k refl
same_tests false false h k = refl

module _ {A : Type 0} (p : A → Bool) where
  pub any_pick : (xs : List A) → any p xs ≡ true → (x : A) × Memᴰ x xs × (p x ≡ true)
  any_pick [] h = absurd (both_ways false refl h)
  any_pick (x ∷ xs) h = elim (or_cases (p x) (any p xs) h) [
    | inl e ↦ (x, Memᴰ.head refl, e)
    | inr e ↦ let (y, m, f) = any_pick xs e in (y, Memᴰ.tail m, f)
  ]

  pub any_put : {x : A} {xs : List A} → Memᴰ x xs → p x ≡ true → any p xs ≡ true
  any_put (Memᴰ.head {x = y} {xs = ys} e) h = or_left (p y) (any p ys) (rw (← e) h)
  any_put (Memᴰ.tail {x = y} {xs = ys} m) h = or_right (p y) (any p ys) (any_put m h)

  pub all_at : {x : A} {xs : List A} → Memᴰ x xs → all p xs ≡ true → p x ≡ true
  all_at (Memᴰ.head {x = y} {xs = ys} e) h = rw e (and_parts (p y) (all p ys) h).0
  all_at (Memᴰ.tail {x = y} {xs = ys} m) h = all_at m (and_parts (p y) (all p ys) h).1

  pub all_put : (xs : List A) → ((x : A) → Memᴰ x xs → p x ≡ true) → all p xs ≡ true
  all_put [] h = refl
  all_put (x ∷ xs) h = and_from (p x) (all p xs) (h x (Memᴰ.head refl)) (all_put xs (λ y m. h y (Memᴰ.tail m)))
