-- How much of a line its words take.
use Rattle.std.specs.Prelude.{ℕ, ◌+◌, List, [], ◌∷◌, length}

-- the bytes of words, each with the space before it
abbrev pub room : List (List ℕ) → ℕ
room [] = 0
room (w ∷ ws) = 1 + length w + room ws
