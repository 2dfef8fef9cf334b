-- The rows that a list of places holds.
use Rattle.std.specs.Prelude.{ℕ, List, [], ◌∷◌, Some, None, count_by, Option}
use Rattle.std.specs.List.{flat_map}
use Rattle.store.specs.Store.{is_empty}
use Rattle.store.specs.declared.row.Row.{Row}

-- the row at a place, if there is one
abbrev pub given : Option Row → List Row
given (Some r) = r ∷ []
given None = []

-- the rows held
abbrev pub rows_of : List (Option Row) → List Row
rows_of table = flat_map given table

-- the number of places that hold nothing
abbrev pub empties : List (Option Row) → ℕ
empties table = count_by is_empty table
