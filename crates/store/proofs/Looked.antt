-- What a look through the places of a source tells.
use Rattle.std.proofs.Common.{◌≡◌, ℕ, true, false, List, Some, None, Option, refl, ap}
use Rattle.std.proofs.lemmas.Bool.{both_ways}
use Rattle.store.specs.Store.{Store, FindSays, is_row, is_empty}
use Rattle.store.specs.Tables.{VacantSays}
use Rattle.store.specs.declared.row.Row.{Row}
use Rattle.store.proofs.Alike.{same_row_is}
use Rattle.store.proofs.Firsts.{First}

pub row_there : (row : Row) (place : Option Row) → is_row row place ≡ true → place ≡ Some row
row_there row None is = absurd (both_ways false refl is)
row_there row (Some held) is = ap Some (same_row_is held row is)

pub nothing_there : (place : Option Row) → is_empty place ≡ true → place ≡ None
nothing_there None is = refl
nothing_there (Some held) is = absurd (both_ways false refl is)

pub found : (s : Store) (row : Row) (r : Option ℕ) → First (is_row row) s.places r → FindSays s row r
found s row None none = none
found s row (Some p) (inside, at) = (inside, row_there row _ (at None).0)

pub vacant_at : (places : List (Option Row)) (r : Option ℕ) → First is_empty places r → VacantSays places r
vacant_at places None none = none
vacant_at places (Some p) (inside, at) = (inside, nothing_there _ (at None).0)
