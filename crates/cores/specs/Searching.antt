-- A search for choices that work, one choice after the other.
use Rattle.std.specs.Prelude.{ℕ, Bool, ◌&&◌, List, ◌++◌}
use Rattle.store.specs.Lists.{any, all}
use Rattle.cores.specs.Backing.{one_of, clear_places, without, Works}

-- no choices that begin with these work
abbrev pub NoneBeyond : List (List ℕ) → List ℕ → List ℕ → List ℕ → Type 0
NoneBeyond C ins outs chosen = (more : List ℕ) → Works C ins outs (chosen ++ more) → ⊥

-- the conflict can be chosen for the place o: it has o, and with its other places no whole conflict is marked
abbrev pub fits : List (List ℕ) → List ℕ → ℕ → List ℕ → Bool
fits C marks o conflict = one_of conflict o && clear_places C (one_of (marks ++ without o conflict))

-- the conflict can be chosen for the place o at no cost: it has o, and its other places are marked already
abbrev pub is_free : List ℕ → ℕ → List ℕ → Bool
is_free marks o conflict = one_of conflict o && all (one_of marks) (without o conflict)

-- the row at the place o is shut out: with it, some conflict would be marked whole
abbrev pub shut_out : List (List ℕ) → List ℕ → ℕ → Bool
shut_out C marks o = any (is_free marks o) C
