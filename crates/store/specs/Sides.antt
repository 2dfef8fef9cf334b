-- What comparisons mean, by what is known of their columns.
use Rattle.std.specs.Prelude.{◌≡◌, ℕ, Bool, true, ◌&&◌}
use Rattle.store.specs.Signs.{compares}
use Rattle.store.specs.declared.comparison.Side.{Side}
use Rattle.store.specs.declared.comparison.Side.TheVariants.{Column, Constant}
use Rattle.store.specs.declared.comparison.Comparison.{Comparison}

-- the number that a side stands for, from those of the columns
abbrev pub side_value : {C : Type 0} → (C → ℕ) → Side C → ℕ
side_value value (Column column) = value column
side_value value (Constant n) = n

-- the side is a constant, or a column that passes
abbrev pub side_passes : {C : Type 0} → (C → Bool) → Side C → Bool
side_passes test (Column column) = test column
side_passes test (Constant n) = true

-- the comparison holds, by the numbers of the columns
abbrev pub holds_by : {C : Type 0} → (C → ℕ) → Comparison C → Bool
holds_by value c = compares c.sign (side_value value c.left) (side_value value c.right)

-- each column that it names passes
abbrev pub all_columns : {C : Type 0} → (C → Bool) → Comparison C → Bool
all_columns test c = side_passes test c.left && side_passes test c.right

-- what is said of the column of a side, if it is one
abbrev pub AtColumn : {C : Type 0} → (C → Type 0) → Side C → Type 0
AtColumn {C} Says side = (column : C) → side ≡ Column column → Says column

-- and of each column of a comparison
abbrev pub AtColumns : {C : Type 0} → (C → Type 0) → Comparison C → Type 0
AtColumns Says c = AtColumn Says c.left × AtColumn Says c.right
