-- What a table stands for.
use Rattle.std.specs.Prelude.{◌≡◌, ℕ, ◌<◌, false, List, length, Some, None, Option, slice_index_or}
use Rattle.store.specs.Lists.{any}
use Rattle.store.specs.Rows.{arity_in}
use Rattle.store.specs.Store.{Store, is_empty}
use Rattle.store.specs.declared.row.Row.{Row}
use Rattle.store.specs.declared.table.Table.{Table}

-- the arities that its bytes give, and its cells as places
abbrev pub table_model : Table → Store
table_model t = record { arity = arity_in t.arities; places = t.cells }

-- an empty place, or nothing when every place holds a row
abbrev pub VacantSays : List (Option Row) → Option ℕ → Type 0
VacantSays places (Some p) = (p < length places) × (slice_index_or places p None ≡ None)
VacantSays places None = any is_empty places ≡ false
