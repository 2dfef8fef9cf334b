-- A row is among the rows held where it stands at some place.
use Rattle.std.proofs.Common.{◌≡◌, true, ◌||◌, List, [], ◌∷◌, Some, None, Option, refl, subst, ap₂}
use Rattle.store.specs.Held.{rows_of}
use Rattle.store.specs.Lists.{any}
use Rattle.store.specs.Rows.{same_row}
use Rattle.store.specs.Store.{is_row}
use Rattle.store.specs.declared.row.Row.{Row}
use Rattle.store.proofs.Alike.{same_row_is, same_row_refl}
use Rattle.store.proofs.Tests.{same_tests}

turned : (a b : Row) → same_row a b ≡ true → same_row b a ≡ true
turned a b h = subst (λ x. same_row x a ≡ true) (same_row_is a b h) (same_row_refl a)

pub same_row_sym : (a b : Row) → same_row a b ≡ same_row b a
same_row_sym a b = same_tests (same_row a b) (same_row b a) (turned a b) (turned b a)

pub row_held : (table : List (Option Row)) (row : Row) → any (same_row row) (rows_of table) ≡ any (is_row row) table
row_held [] row = refl
row_held (Some r ∷ table) row = ap₂ ◌||◌ (same_row_sym row r) (row_held table row)
row_held (None ∷ table) row = row_held table row
