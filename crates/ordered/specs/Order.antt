-- Lists in ascending order. Assumes nothing.
use Rattle.std.specs.Prelude.{◌≡◌, ℕ, ◌<◌, Bool, true, false, ◌&&◌, ◌||◌, List, [], ◌∷◌, length, slice_index_or}
use Rattle.std.specs.declared.cmp.Ordering.TheVariants.{Less, Equal, Greater}
use Rattle.std.specs.declared.cmp.Ordering.{Ordering}
use Rattle.std.specs.Ordering.{is_lt, is_eq}
use Rattle.std.specs.List.{list_all}

-- the list ascends: each element is before every later one
abbrev pub rises : {X : Type 0} → (X → X → Ordering) → List X → Bool
rises order [] = true
rises order (x ∷ xs) = list_all (λ y. is_lt (order x y)) xs && rises order xs

-- the same by places
abbrev pub Rising : {X : Type 0} → (X → X → Ordering) → List X → Type 0
Rising {X} order xs = (i j : ℕ) (d : X) → i < j → j < length xs → order (slice_index_or xs i d) (slice_index_or xs j d) ≡ Less

-- the list has an element that is equal to x in the order
abbrev pub listed : {X : Type 0} → (X → X → Ordering) → X → List X → Bool
listed order x [] = false
listed order x (y ∷ ys) = is_eq (order y x) || listed order x ys

-- the first, the second or the third, as the answer is `Less`, `Equal` or `Greater`
abbrev pub pick : {A : Type 0} → Ordering → A → A → A → A
pick Less a b c = a
pick Equal a b c = b
pick Greater a b c = c

-- x entered at its place; a list that has an equal element stays as it is
abbrev pub entered : {X : Type 0} → (X → X → Ordering) → X → List X → List X
entered order x [] = x ∷ []
entered order x (y ∷ ys) = pick (order y x) (y ∷ entered order x ys) (y ∷ ys) (x ∷ y ∷ ys)
