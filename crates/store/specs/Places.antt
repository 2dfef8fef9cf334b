-- What a list of places keeps, whatever source it belongs to.
use Rattle.std.specs.Prelude.{◌≡◌, ℕ, true, ◌&&◌, List, is_some, Some, None, Option, nat_lt, slice_index_or}
use Rattle.store.specs.Rows.{arity_in, zero_from}
use Rattle.store.specs.declared.row.Row.{Row}

-- no row stands at two places: where two places have the same row, they are one place
abbrev pub OnceIn : List (Option Row) → Type 0
OnceIn places = (p q : ℕ) → (is_some (slice_index_or places p None) ≡ true) × (slice_index_or places p None ≡ slice_index_or places q None) → p ≡ q

-- every row is of a relation that the bytes declare, with zeros from its arity on
abbrev pub FitIn : List ℕ → List (Option Row) → Type 0
FitIn bytes places = (p : ℕ) (row : Row) → slice_index_or places p None ≡ Some row →
    (nat_lt 0 (arity_in bytes row.relation) && zero_from (arity_in bytes row.relation) row.columns) ≡ true
