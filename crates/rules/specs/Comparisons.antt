-- What a comparison names of its rule.
use Rattle.std.specs.Prelude.{ℕ, max, Bool, ◌&&◌, nat_lt}
use Rattle.store.specs.Sides.{all_columns}
use Rattle.store.specs.declared.comparison.Side.{Side}
use Rattle.store.specs.declared.comparison.Side.TheVariants.{Column, Constant}
use Rattle.store.specs.declared.comparison.Comparison.{Comparison}
use Rattle.rules.specs.declared.rule.AtomColumn.{AtomColumn}

-- a column is one of the four columns of one of the first n atoms
abbrev pub column_within : ℕ → AtomColumn → Bool
column_within n c = nat_lt c.atom n && nat_lt c.column 4

-- each column of the comparison is so
abbrev pub within : ℕ → Comparison AtomColumn → Bool
within n c = all_columns (column_within n) c

-- the atom that a side waits for; a constant waits for none, and counts as the first
abbrev pub side_atom : Side AtomColumn → ℕ
side_atom (Column c) = c.atom
side_atom (Constant k) = 0

-- the atom with whose row the comparison can be decided
abbrev pub last_atom : Comparison AtomColumn → ℕ
last_atom c = max (side_atom c.left) (side_atom c.right)
