-- What the choices above a node want of its lines.
use Rattle.std.specs.Prelude.{ℕ, ◌+◌, Bool, not, ◌||◌, List, ◌++◌, length}
use Rattle.store.specs.Lists.{all}
use Rattle.store.specs.declared.comparison.Side.{Side}
use Rattle.store.specs.declared.comparison.Side.TheVariants.{Column, Constant}
use Rattle.store.specs.declared.comparison.Comparison.{Comparison}
use Rattle.plan.specs.Answers.{chosen}
use Rattle.plan.specs.Filling.{inside}

-- a line meets a comparison that holds of it, or that names a column which it has not
abbrev pub meets : List ℕ → Comparison ℕ → Bool
meets line comparison = not (inside (length line) comparison) || chosen comparison line

-- a line that comes after known columns meets each comparison
abbrev pub passes : List (Comparison ℕ) → List ℕ → List ℕ → Bool
passes comparisons known line = all (meets (known ++ line)) comparisons

-- the comparison of a line that begins at a column, as one of the whole line
abbrev pub shifted_side : ℕ → Side ℕ → Side ℕ
shifted_side at (Column column) = Column (at + column)
shifted_side at (Constant n) = Constant n

abbrev pub shifted : ℕ → Comparison ℕ → Comparison ℕ
shifted at comparison = record { left = shifted_side at comparison.left; sign = comparison.sign; right = shifted_side at comparison.right }
