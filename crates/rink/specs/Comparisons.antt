-- The comparisons that are written short.
use Rattle.std.specs.Prelude.{ℕ}
use Rattle.store.specs.declared.sign.Sign.{Sign}
use Rattle.store.specs.declared.sign.Sign.TheVariants.{Equal}
use Rattle.store.specs.declared.comparison.Side.{Side}
use Rattle.store.specs.declared.comparison.Side.TheVariants.{Column, Constant}
use Rattle.store.specs.declared.comparison.Comparison.{Comparison}
use Rattle.rules.specs.declared.rule.AtomColumn.{AtomColumn}

-- a column of the row that is chosen for an atom
abbrev pub column_of : ℕ → ℕ → Side AtomColumn
column_of atom column = Column (record { atom = atom; column = column })

-- the same column of two atoms, compared
abbrev pub both : ℕ → Sign → ℕ → ℕ → Comparison AtomColumn
both left sign right column = record { left = column_of left column; sign = sign; right = column_of right column }

-- a column of an atom, compared with a number
abbrev pub with_number : ℕ → ℕ → Sign → ℕ → Comparison AtomColumn
with_number atom column sign number = record { left = column_of atom column; sign = sign; right = Constant number }

-- 1=1
abbrev pub always : Comparison AtomColumn
always = record { left = Constant 1; sign = Equal; right = Constant 1 }
