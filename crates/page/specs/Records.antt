-- One record of a page: 20 bytes that hold a row or nothing.
use Rattle.std.specs.Prelude.{◌≡◌, ℕ, ◌+◌, ◌*◌, ◌/◌, ◌%◌, ◌^◌, ◌<◌, Bool, cond, ◌&&◌, ◌||◌, List, [], ◌∷◌, ◌++◌, length, drop, replicate, Some, None, Option, ◌==◌, nat_eq, nat_lt, slice_index}
use Rattle.std.specs.List.{flat_map}
use Rattle.store.specs.Lists.{all}
use Rattle.store.specs.Rows.{zero_from}
use Rattle.store.specs.declared.row.Row.{Row}

-- the record starts with these two bytes
abbrev pub starts_with : ℕ → ℕ → List ℕ → Bool
starts_with first second bytes = slice_index bytes 0 == first && slice_index bytes 1 == second

-- hex 49 43 marks a row
abbrev pub marks_row : List ℕ → Bool
marks_row = starts_with 0x49 0x43

-- hex 2E 2E marks an empty place
abbrev pub marks_empty : List ℕ → Bool
marks_empty = starts_with 0x2E 0x2E

-- the record has one of the two marks
abbrev pub is_marked : List ℕ → Bool
is_marked bytes = marks_row bytes || marks_empty bytes

-- the number that two bytes from i on spell, the highest byte first
abbrev pub two_at : List ℕ → ℕ → ℕ
two_at bytes i = slice_index bytes i * 256 + slice_index bytes (i + 1)

-- and the number that four bytes spell
abbrev pub four_at : List ℕ → ℕ → ℕ
four_at bytes i = slice_index bytes i * 16777216 + slice_index bytes (i + 1) * 65536 + slice_index bytes (i + 2) * 256 + slice_index bytes (i + 3)

-- the row that a record spells after its mark: the relation, then the four columns
abbrev pub row_in : List ℕ → Row
row_in bytes = record { relation = two_at bytes 2; columns = four_at bytes 4 ∷ four_at bytes 8 ∷ four_at bytes 12 ∷ four_at bytes 16 ∷ [] }

-- what stands at the place of a record
abbrev pub place_of : List ℕ → Option Row
place_of bytes = cond (marks_row bytes) (Some (row_in bytes)) None

-- a row's relation is declared and its columns from the arity on are zero; an empty record is zero after its mark
abbrev pub is_fit : (ℕ → ℕ) → List ℕ → Bool
is_fit arity bytes =
    cond (marks_row bytes)
    (nat_lt 0 (arity (row_in bytes).relation) && zero_from (arity (row_in bytes).relation) (row_in bytes).columns)
    (all (nat_eq 0) (drop 2 bytes))

-- the row's numbers are those that a record has room for
pub record Proper (row : Row) : Type 0 where
  pub relation : row.relation < 2 ^ 16
  pub count : length row.columns ≡ 4
  pub columns : (k : ℕ) → slice_index row.columns k < 2 ^ 32

-- a number in two bytes, the highest byte first
abbrev pub in_two : ℕ → List ℕ
in_two n = (n / 256 % 256) ∷ (n % 256) ∷ []

-- and a number in four bytes
abbrev pub in_four : ℕ → List ℕ
in_four n = (n / 16777216 % 256) ∷ (n / 65536 % 256) ∷ (n / 256 % 256) ∷ (n % 256) ∷ []

-- the record of what stands at a place: the mark, and then the row or zeros
abbrev pub record_of : Option Row → List ℕ
record_of (Some row) = 0x49 ∷ 0x43 ∷ (in_two row.relation ++ flat_map in_four row.columns)
record_of None = 0x2E ∷ 0x2E ∷ replicate 18 0
