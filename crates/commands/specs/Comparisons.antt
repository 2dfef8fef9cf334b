-- Comparisons of a rule as a line writes them, as a0.1#a1.1, a0.0<5 and 7=7.
use Rattle.std.specs.Prelude.{ℕ, ◌-◌, cond, List, length, Some, None, codes, Option, slice_index}
use Rattle.std.specs.Option.{option_map, option_flatten, option_zip}
use Rattle.store.specs.declared.comparison.Side.{Side}
use Rattle.store.specs.declared.comparison.Side.TheVariants.{Column, Constant}
use Rattle.store.specs.declared.comparison.Comparison.{Comparison}
use Rattle.store.specs.declared.sign.Sign.{Sign}
use Rattle.store.specs.declared.sign.Sign.TheVariants.{Equal, Unequal, Less, Greater}
use Rattle.rules.specs.declared.rule.AtomColumn.{AtomColumn}
use Rattle.words.specs.Language.{among, halves_of, number_of, is_atom_column}
use Rattle.words.specs.declared.separators.Separator.TheVariants.{Sign as AtSign}

-- the sign that a byte is
abbrev pub sign_of : ℕ → Option Sign
sign_of b =
    cond (among (codes "=") b) (Some Equal)
    (cond (among (codes "#") b) (Some Unequal)
    (cond (among (codes "<") b) (Some Less)
    (cond (among (codes ">") b) (Some Greater) None)))

-- both sides of a comparison, and between them its sign, the byte behind the left side
abbrev pub compared : {S : Type 0} → (List ℕ → Option S) → List ℕ → Option (S × (Sign × S))
compared side text = option_flatten (option_map (λ h. option_zip (side h.0) (option_zip (sign_of (slice_index text (length h.0))) (side h.1))) (halves_of AtSign text))

-- the comparison of a left side, by a sign, with a right side
abbrev pub between : {C : Type 0} → Side C × (Sign × Side C) → Comparison C
between c = record { left = c.0; sign = c.1.0; right = c.1.1 }

-- the digit at a place
abbrev pub digit_at : ℕ → List ℕ → ℕ
digit_at i text = slice_index text i - 48

-- a column of an atom: in a0.1 the first digit is the atom, the second the column; or a constant
abbrev pub atom_side : List ℕ → Option (Side AtomColumn)
atom_side text = cond (is_atom_column text) (Some (Column record { atom = digit_at 1 text; column = digit_at 3 text })) (option_map Constant (number_of text))

-- the comparison that a word is
abbrev pub comparison_of : List ℕ → Option (Comparison AtomColumn)
comparison_of w = option_map between (compared atom_side w)
