-- What is printed of the lines of a sheet.
use Rattle.std.specs.Prelude.{ℕ, List, [], ◌∷◌, ◌++◌, take, codes, decimal}
use Rattle.std.specs.List.{flat_map}
use Rattle.plan.specs.declared.line.Line.{Line}

-- columns, parted by one space each
abbrev pub columns_words : List ℕ → List ℕ
columns_words [] = []
columns_words (n ∷ ns) = decimal n ++ flat_map (λ m. codes " " ++ decimal m) ns

-- lines, each up to this width and ended by a newline
abbrev pub lines_words : ℕ → List Line → List ℕ
lines_words width lines = flat_map (λ l. columns_words (take width l.columns) ++ codes "\n") lines
