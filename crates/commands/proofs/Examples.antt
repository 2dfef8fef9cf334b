-- What the definitions say of some lines.
use Rattle.std.proofs.Common.{◌≡◌, [], ◌∷◌, Some, codes, Option, refl}
use Prim.Native.String.{String}
use Rattle.store.specs.declared.sign.Sign.TheVariants.{Equal, Unequal, Less}
use Rattle.store.specs.declared.comparison.Side.TheVariants.{Column, Constant}
use Rattle.words.specs.Language.{cut, placed, number_of}
use Rattle.commands.specs.Tasks.{Task, enter, rule, conflicts}
use Rattle.commands.specs.Lines.{line_command, line_refusal}
use Rattle.commands.specs.declared.refusal.Refusal.{Refusal}
use Rattle.commands.specs.declared.refusal.Refusal.TheVariants.{UnknownCommand, UnknownWord, Misplaced}

abbrev says : String → Option Task
says line = line_command (codes line)

abbrev refused : String → Option Refusal
refused line = line_refusal (codes line)

a_row : says "enter 3 7 8" ≡ Some (enter (record { relation = 3; columns = 7 ∷ 8 ∷ 0 ∷ 0 ∷ [] }))
unfolding cut placed number_of
a_row = refl

-- in a1.2 the atom is 1 and the column 2
a_rule : says "rule 3 4 a0.1#a1.2 7<a0.0" ≡ Some (rule (record { atoms = 3 ∷ 4 ∷ []; comparisons = record { left = Column record { atom = 0; column = 1 }; sign = Unequal; right = Column record { atom = 1; column = 2 } } ∷ record { left = Constant 7; sign = Less; right = Column record { atom = 0; column = 0 } } ∷ [] }))
unfolding cut placed number_of
a_rule = refl

no_words : says "rule" ≡ Some (rule (record { atoms = []; comparisons = [] }))
unfolding cut placed number_of
no_words = refl

no_atoms : says "rule 7=7" ≡ Some (rule (record { atoms = []; comparisons = record { left = Constant 7; sign = Equal; right = Constant 7 } ∷ [] }))
unfolding cut placed number_of
no_atoms = refl

all_conflicts : says "conflicts" ≡ Some conflicts
unfolding cut placed number_of
all_conflicts = refl

atom_late : refused "rule 3 7=7 4" ≡ Some Misplaced
unfolding cut placed number_of
atom_late = refl

relation_large : refused "rule 65536" ≡ Some Misplaced
unfolding cut placed number_of
relation_large = refl

column_of_line : refused "rule 3 c0<5" ≡ Some Misplaced
unfolding cut placed number_of
column_of_line = refl

leaf_in_rule : refused "rule 3 4:_" ≡ Some Misplaced
unfolding cut placed number_of
leaf_in_rule = refl

word_behind : refused "conflicts 7" ≡ Some Misplaced
unfolding cut placed number_of
word_behind = refl

-- a word without a form is asked about before the order
formless_behind : refused "conflicts x" ≡ Some UnknownWord
unfolding cut placed number_of
formless_behind = refl

-- two spaces part an empty word, which has no form
two_spaces : refused "rule  3" ≡ Some UnknownWord
unfolding cut placed number_of
two_spaces = refl

no_verb : refused "" ≡ Some UnknownCommand
unfolding cut placed number_of
no_verb = refl
