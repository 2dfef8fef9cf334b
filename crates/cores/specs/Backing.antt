-- What shows that some rows can be in a reading and others out of it: a conflict for each row that is out, whose other rows are in.
use Rattle.std.specs.Prelude.{◌≡◌, ℕ, ◌<◌, ◌≤◌, Bool, true, not, List, [], ◌∷◌, ◌++◌, length, None, filter, Option, nat_eq, slice_index, slice_index_or}
use mathlib.Core.List.{Memᴰ}
use Rattle.store.specs.Lists.{any, all}
use Rattle.store.specs.declared.row.Row.{Row}
use Rattle.rules.specs.Listing.{is_held}

-- Rows are told by their places here, and a conflict by the list of its places; C is the list of the conflicts.

-- the places of a list, as a set
abbrev pub one_of : List ℕ → ℕ → Bool
one_of places p = any (nat_eq p) places

-- the set S of places includes no whole conflict
abbrev pub clear_places : List (List ℕ) → (ℕ → Bool) → Bool
clear_places C S = not (any (all S) C)

-- no conflict has more than three places
abbrev pub Small : List (List ℕ) → Type 0
Small C = (conflict : List ℕ) → Memᴰ conflict C → length conflict ≤ 3

-- each place of these has a row
abbrev pub all_held : List (Option Row) → List ℕ → Bool
all_held table places = all (λ p. is_held (slice_index_or table p None)) places

-- and so has each place of each conflict
abbrev pub HeldIn : List (Option Row) → List (List ℕ) → Type 0
HeldIn table C = (conflict : List ℕ) → Memᴰ conflict C → all_held table conflict ≡ true

-- the places but for o
abbrev pub without : ℕ → List ℕ → List ℕ
without o places = filter (λ p. not (nat_eq p o)) places

-- A conflict is chosen, by its number, for each place whose row is out, in order.

-- the other places of the chosen conflicts
abbrev pub others : List (List ℕ) → List ℕ → List ℕ → List ℕ
others C [] choices = []
others C (o ∷ outs) [] = []
others C (o ∷ outs) (c ∷ choices) = without o (slice_index_or C c []) ++ others C outs choices

-- the places that are marked: those whose rows are in, and the others of the chosen conflicts
abbrev pub backing : List (List ℕ) → List ℕ → List ℕ → List ℕ → List ℕ
backing C ins outs choices = ins ++ others C outs choices

-- each choice is the number of a conflict that has the place it is chosen for
abbrev pub Real : List (List ℕ) → List ℕ → List ℕ → Type 0
Real C outs choices = (k : ℕ) → k < length choices → (slice_index choices k < length C) × (one_of (slice_index_or C (slice_index choices k) []) (slice_index outs k) ≡ true)

-- the choices work: there is one for each place whose row is out, and no whole conflict is marked
pub record Works (C : List (List ℕ)) (ins outs choices : List ℕ) : Type 0 where
  pub long : length choices ≡ length outs
  pub real : Real C outs choices
  pub stands : clear_places C (one_of (backing C ins outs choices)) ≡ true

abbrev pub NoneWorks : List (List ℕ) → List ℕ → List ℕ → Type 0
NoneWorks C ins outs = (choices : List ℕ) → Works C ins outs choices → ⊥
