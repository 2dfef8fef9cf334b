-- Rows, and the arities that they must fit.
use Rattle.std.specs.Prelude.{ℕ, Bool, cond, ◌&&◌, List, drop, ◌==◌, nat_eq, nat_le, nat_lt, slice_index}
use Rattle.store.specs.Lists.{all, same_numbers}
use Rattle.store.specs.declared.row.Row.{Row}

-- the same relation and the same columns
abbrev pub same_row : Row → Row → Bool
same_row a b = a.relation == b.relation && same_numbers a.columns b.columns

-- what the bytes say of a relation: its arity, or 0 (undeclared) where its byte is missing or above 4, and past relation 15
abbrev pub arity_in : List ℕ → ℕ → ℕ
arity_in bytes relation = cond (nat_lt relation 16 && nat_le (slice_index bytes relation) 4) (slice_index bytes relation) 0

-- the columns from the arity on are zero
abbrev pub zero_from : ℕ → List ℕ → Bool
zero_from arity columns = all (nat_eq 0) (drop arity columns)
