-- Ways to say of each leaf of a plan whether the row that a line names there is in a reading.
use Rattle.std.specs.Prelude.{ℕ, zero, suc, ◌/◌, ◌%◌, Bool, true, cond, not, ◌&&◌, List, [], ◌∷◌, ◌++◌, Some, None, Option, ◌==◌}

-- A leaf stands here for the place of its row, or for none where the row is not held. A way may be longer than the leaves;
-- what it says past the last leaf counts for nothing.

-- the place of a leaf, if it has one and if it is asked for
abbrev pub place_if : Bool → Option ℕ → List ℕ
place_if asked None = []
place_if asked (Some p) = cond asked (p ∷ []) []

-- the places whose rows the way says are in
abbrev pub ins_of : List (Option ℕ) → List Bool → List ℕ
ins_of [] way = []
ins_of (leaf ∷ leaves) [] = []
ins_of (leaf ∷ leaves) (says ∷ way) = place_if says leaf ++ ins_of leaves way

-- the places whose rows the way says are out
abbrev pub outs_of : List (Option ℕ) → List Bool → List ℕ
outs_of [] way = []
outs_of (leaf ∷ leaves) [] = []
outs_of (leaf ∷ leaves) (says ∷ way) = place_if (not says) leaf ++ outs_of leaves way

-- a row that is not held is in no reading
abbrev pub may_be : Bool → Option ℕ → Bool
may_be says None = not says
may_be says (Some p) = true

-- the way says of no row that is not held that it is in
abbrev pub possible : List (Option ℕ) → List Bool → Bool
possible [] way = true
possible (leaf ∷ leaves) [] = true
possible (leaf ∷ leaves) (says ∷ way) = may_be says leaf && possible leaves way

-- the n lowest bits of a number, the lowest first: so the ways for n leaves have the numbers below 2 ^ n
abbrev pub bits : ℕ → ℕ → List Bool
bits number zero = []
bits number (suc n) = (number % 2 == 1) ∷ bits (number / 2) n
