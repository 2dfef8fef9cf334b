-- Words that are numbers: relations and columns.
use Rattle.std.specs.Prelude.{ℕ, ◌-◌, cond, ◌&&◌, List, [], ◌∷◌, ◌++◌, length, replicate, Some, None, Option, nat_le}
use Rattle.std.specs.Option.{option_map, option_flatten}
use Rattle.words.specs.Language.{number_of}

-- one more in front, where there is one and there are the others
abbrev pub prefixed : {A : Type 0} → Option A → Option (List A) → Option (List A)
prefixed None others = None
prefixed (Some x) None = None
prefixed (Some x) (Some xs) = Some (x ∷ xs)

-- what each of the words stands for, where each stands for something
abbrev pub each : {A : Type 0} → (List ℕ → Option A) → List (List ℕ) → Option (List A)
each value [] = Some []
each value (w ∷ ws) = prefixed (value w) (each value ws)

-- what at most n words stand for
abbrev pub values_from : {A : Type 0} → ℕ → (List ℕ → Option A) → List (List ℕ) → Option (List A)
values_from n value ws = cond (nat_le (length ws) n) (each value ws) None

-- how many values there are, and they filled up to n
abbrev pub filled : {A : Type 0} → ℕ → A → List A → ℕ × List A
filled n filler xs = (length xs, xs ++ replicate (n - length xs) filler)

-- a number that can be a relation's
abbrev pub as_relation : ℕ → Option ℕ
as_relation n = cond (nat_le n 65535) (Some n) None

-- the relation that a word is
abbrev pub relation_of : List ℕ → Option ℕ
relation_of w = option_flatten (option_map as_relation (number_of w))

-- columns filled up with zeros to n
abbrev pub padded : ℕ → List ℕ → List ℕ
padded n columns = columns ++ replicate (n - length columns) 0

-- one to n words that are numbers, the rest zero
abbrev pub columns_from : ℕ → List (List ℕ) → Option (List ℕ)
columns_from n ws = cond (nat_le 1 (length ws) && nat_le (length ws) n) (option_map (padded n) (each number_of ws)) None
