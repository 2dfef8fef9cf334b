-- Sets of rows, and lists without repetition.
use Rattle.std.specs.Prelude.{Bool, true, not, ◌&&◌, ◌||◌, List, [], ◌∷◌}
use Rattle.store.specs.Lists.{any, all}
use Rattle.store.specs.Rows.{same_row}
use Rattle.store.specs.declared.row.Row.{Row}

-- a set of rows, by its test
abbrev pub Rows : Type 0
Rows = Row → Bool

-- the set of the rows of a list
abbrev pub among : List Row → Rows
among rows r = any (same_row r) rows

-- S and the row r
abbrev pub with : Row → Rows → Rows
with r S x = same_row x r || S x

-- no two elements are the same
abbrev pub distinct : {A : Type 0} → (A → A → Bool) → List A → Bool
distinct same [] = true
distinct same (x ∷ xs) = not (any (same x) xs) && distinct same xs

-- two lists with the same rows in them
abbrev pub same_rows : List Row → List Row → Bool
same_rows a b = all (among b) a && all (among a) b
