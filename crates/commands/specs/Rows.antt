-- Rows as a line writes them.
use Rattle.std.specs.Prelude.{ℕ, List, [], ◌∷◌, None, Option}
use Rattle.std.specs.Option.{option_map, option_zip}
use Rattle.store.specs.declared.row.Row.{Row}
use Rattle.commands.specs.Numbers.{relation_of, columns_from}

-- a relation and one to four columns
abbrev pub row_from : List (List ℕ) → Option Row
row_from [] = None
row_from (w ∷ ws) = option_map (λ r. record { relation = r.0; columns = r.1 }) (option_zip (relation_of w) (columns_from 4 ws))
