-- Tests on lists, as values.
use Rattle.std.specs.Prelude.{ℕ, Bool, List, ◌==◌}
use Rattle.std.specs.Cmp.Lexicographic.{pointwise}
use Rattle.std.specs.List.{list_any, list_all}

-- some element passes the test
abbrev pub any : {A : Type 0} → (A → Bool) → List A → Bool
any = list_any

-- each element passes the test
abbrev pub all : {A : Type 0} → (A → Bool) → List A → Bool
all = list_all

-- the same numbers in the same order
abbrev pub same_numbers : List ℕ → List ℕ → Bool
same_numbers = pointwise ◌==◌
