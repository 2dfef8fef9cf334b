-- What the definitions say of some plans.
use Rattle.std.proofs.Common.{◌≡◌, ℕ, List, [], ◌∷◌, Some, None, codes, Option, refl}
use Prim.Native.String.{String}
use Rattle.store.specs.declared.sign.Sign.TheVariants.{Equal, Unequal, Less}
use Rattle.store.specs.declared.comparison.Side.TheVariants.{Column, Constant}
use Rattle.plan.specs.declared.node.Field.TheVariants.{Open, Fixed}
use Rattle.plan.specs.declared.node.Op.TheVariants.{Product, Union, Difference}
use Rattle.plan.specs.declared.node.Node.{Node}
use Rattle.plan.specs.declared.node.Node.TheVariants.{Leaf, Choice, Pair}
use Rattle.words.specs.Language.{cut, placed, number_of}
use Rattle.commands.specs.Lines.{words_of}
use Rattle.commands.specs.Plans.{plan_from, verdict_from}

abbrev planned : String → Option (List Node)
planned line = plan_from (words_of (codes line))

abbrev asked : String → Option (List Node × List ℕ)
asked line = verdict_from (words_of (codes line))

-- the columns from the arity on are not written
one_leaf : planned "3:_,7" ≡ Some (Leaf 3 2 (Open ∷ Fixed 7 ∷ Fixed 0 ∷ Fixed 0 ∷ []) ∷ [])
unfolding cut placed number_of
one_leaf = refl

-- the left node is the one that was put first
difference : planned "0:_ 1:_ -" ≡ Some (Leaf 0 1 (Open ∷ Fixed 0 ∷ Fixed 0 ∷ Fixed 0 ∷ []) ∷ Leaf 1 1 (Open ∷ Fixed 0 ∷ Fixed 0 ∷ Fixed 0 ∷ []) ∷ Pair Difference 0 1 ∷ [])
unfolding cut placed number_of
difference = refl

-- a sign takes what is on top, and then what was put before all of that
nested : planned "0:_ 1:_ 2:_ * c0=c1 4#c1 +" ≡ Some (Leaf 0 1 (Open ∷ Fixed 0 ∷ Fixed 0 ∷ Fixed 0 ∷ []) ∷ Leaf 1 1 (Open ∷ Fixed 0 ∷ Fixed 0 ∷ Fixed 0 ∷ []) ∷ Leaf 2 1 (Open ∷ Fixed 0 ∷ Fixed 0 ∷ Fixed 0 ∷ []) ∷ Pair Product 1 2 ∷ Choice 3 record { left = Column 0; sign = Equal; right = Column 1 } ∷ Choice 4 record { left = Constant 4; sign = Unequal; right = Column 1 } ∷ Pair Union 0 5 ∷ [])
unfolding cut placed number_of
nested = refl

verdict : asked "3:_,_ c1<5 / 1 40" ≡ Some (Leaf 3 2 (Open ∷ Open ∷ Fixed 0 ∷ Fixed 0 ∷ []) ∷ Choice 0 record { left = Column 1; sign = Less; right = Constant 5 } ∷ [], 1 ∷ 40 ∷ 0 ∷ 0 ∷ 0 ∷ 0 ∷ 0 ∷ 0 ∷ [])
unfolding cut placed number_of
verdict = refl

-- a sign without two nodes, a choice without one, two nodes left
sign_early : planned "0:_ *" ≡ None
unfolding cut placed number_of
sign_early = refl

choice_early : planned "c0<5 0:_" ≡ None
unfolding cut placed number_of
choice_early = refl

two_left : planned "0:_ 1:_" ≡ None
unfolding cut placed number_of
two_left = refl

-- a column of an atom, a large relation, a number, a slash
atom_column : planned "0:_ a0.0<5" ≡ None
unfolding cut placed number_of
atom_column = refl

relation_large : planned "65536:_" ≡ None
unfolding cut placed number_of
relation_large = refl

number_in_plan : planned "0:_ 7" ≡ None
unfolding cut placed number_of
number_in_plan = refl

slash_in_plan : planned "0:_ /" ≡ None
unfolding cut placed number_of
slash_in_plan = refl

-- no slash, no plan, no column, nine columns, a second slash
no_slash : asked "0:_ 1" ≡ None
unfolding cut placed number_of
no_slash = refl

no_plan : asked "/ 1" ≡ None
unfolding cut placed number_of
no_plan = refl

no_column : asked "0:_ /" ≡ None
unfolding cut placed number_of
no_column = refl

nine_columns : asked "0:_ / 1 2 3 4 5 6 7 8 9" ≡ None
unfolding cut placed number_of
nine_columns = refl

second_slash : asked "0:_ / 1 / 2" ≡ None
unfolding cut placed number_of
second_slash = refl
