-- Comparisons of a plan as a line writes them, as c0<5, c0=c1 and 4#c2.
use Rattle.std.specs.Prelude.{ℕ, cond, List, Some, Option}
use Rattle.std.specs.Option.{option_map}
use Rattle.store.specs.declared.comparison.Side.{Side}
use Rattle.store.specs.declared.comparison.Side.TheVariants.{Column, Constant}
use Rattle.store.specs.declared.comparison.Comparison.{Comparison}
use Rattle.words.specs.Language.{number_of, is_line_column}
use Rattle.commands.specs.Comparisons.{compared, between, digit_at}

-- a column of the line: in c1 the digit is the column; or a constant
abbrev pub line_side : List ℕ → Option (Side ℕ)
line_side text = cond (is_line_column text) (Some (Column (digit_at 1 text))) (option_map Constant (number_of text))

-- the comparison that a word is, where it names columns of a line alone
abbrev pub choice_of : List ℕ → Option (Comparison ℕ)
choice_of w = option_map between (compared line_side w)
