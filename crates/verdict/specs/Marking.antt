-- What the mark bytes say of places: 1 that the row there is in, 2 that rows that are in shut it out.
use Rattle.std.specs.Prelude.{◌≡◌, ℕ, Bool, true, false, not, ◌&&◌, ◌||◌, List, map, ◌==◌, nat_lt, slice_index}
use Rattle.store.specs.Lists.{any, all}
use Rattle.rules.specs.Views.{listed_as}
use Rattle.rules.specs.declared.conflict.Conflict.{Conflict}
use Rattle.cores.specs.Backing.{one_of}

-- the places of each conflict
abbrev pub lists_of : List Conflict → List (List ℕ)
lists_of conflicts = map (λ c. (listed_as c).places) conflicts

-- each of these places has a mark byte
abbrev pub have_bytes : List ℕ → Bool
have_bytes places = all (λ p. nat_lt p 256) places

-- the row at the place is in
abbrev pub is_in : List ℕ → ℕ → Bool
is_in marks p = slice_index marks p == 1

-- the row at the place is shut out
abbrev pub is_shut : List ℕ → ℕ → Bool
is_shut marks p = slice_index marks p == 2

-- just the rows at these places are in
abbrev pub Shows : List ℕ → List ℕ → Type 0
Shows places marks = (p : ℕ) → is_in marks p ≡ one_of places p

-- no row is told to be shut out
abbrev pub NoneShut : List ℕ → Type 0
NoneShut marks = (p : ℕ) → is_shut marks p ≡ false

-- the rows at these places are in too, and no other is told to be shut out
pub record Adds (places before after : List ℕ) : Type 0 where
  pub in_too : (p : ℕ) → is_in after p ≡ (is_in before p || one_of places p)
  pub shut : NoneShut before → NoneShut after

-- the conflict has the place o, and all its other places are in S
abbrev pub lacks_only : (ℕ → Bool) → ℕ → List ℕ → Bool
lacks_only S o conflict = one_of conflict o && all (λ p. p == o || S p) conflict

-- the conflict has the place o, and none of its other rows is told to be shut out
abbrev pub is_left : List ℕ → ℕ → List ℕ → Bool
is_left marks o conflict = one_of conflict o && all (λ p. p == o || not (is_shut marks p)) conflict

-- a row that is told to be shut out has a conflict whose other rows are in
abbrev pub Shuts : List (List ℕ) → List ℕ → Type 0
Shuts C marks = (p : ℕ) → is_shut marks p ≡ true → any (lacks_only (is_in marks) p) C ≡ true
