-- What a reading is; the literature says repair.
use Rattle.std.specs.Prelude.{Bool, not, ◌&&◌, ◌||◌, List}
use Rattle.store.specs.Lists.{any, all}
use Rattle.store.specs.declared.row.Row.{Row}
use Rattle.rules.specs.Sets.{Rows, with}

-- S includes no whole conflict
abbrev pub clear : List (List Row) → Rows → Bool
clear conflicts S = not (any (all S) conflicts)

-- R includes no whole conflict, and no other held row can be added to it without including one
abbrev pub reading : List Row → List (List Row) → Rows → Bool
reading held conflicts R = clear conflicts R && all (λ r. R r || not (clear conflicts (with r R))) held
