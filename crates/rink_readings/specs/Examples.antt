-- Nine verdicts at the rink, said in the words that the verdicts of the engine are said in.
use Rattle.std.specs.Prelude.{◌≡◌, ℕ, false, List, [], ◌∷◌}
use Rattle.store.specs.declared.row.Row.{Row}
use Rattle.store.specs.declared.sign.Sign.TheVariants.{Equal, Unequal, Less, Greater}
use Rattle.rules.specs.Laws.{HasAtoms}
use Rattle.rules.specs.Rules.{Denial, conflicts}
use Rattle.rink.specs.Comparisons.{both, with_number}
use Rattle.plan.specs.Answers.{padded, is_answer}
use Rattle.plan.specs.declared.node.Field.TheVariants.{Open, Fixed}
use Rattle.plan.specs.declared.node.Node.{Node}
use Rattle.plan.specs.declared.node.Node.TheVariants.{Leaf, Pair}
use Rattle.plan.specs.declared.node.Op.{Op}
use Rattle.plan.specs.declared.node.Op.TheVariants.{Union, Difference}
use Rattle.cores.specs.Sure.{Sure, Core}

-- THE ROWS: all on pad 1 at slot 40, unless another pad is told

-- a row of a relation with a pad and a slot: Ice (0), Held (1), Void (2), Flood (4)
abbrev pub on_pad : ℕ → ℕ → Row
on_pad relation pad = record { relation = relation; columns = pad ∷ 40 ∷ 0 ∷ 0 ∷ [] }

abbrev pub ice : Row
ice = on_pad 0 1

abbrev pub held : Row
held = on_pad 1 1

abbrev pub void : Row
void = on_pad 2 1

abbrev pub flood : ℕ → Row
flood pad = on_pad 4 pad

-- a Party (3) has a club too
abbrev pub party : ℕ → Row
party club = record { relation = 3; columns = 1 ∷ 40 ∷ club ∷ 0 ∷ [] }

-- THE RULES

-- no rows of these two relations stand on one pad at one slot
abbrev pub apart : ℕ → ℕ → Denial
apart a b = record { atoms = a ∷ b ∷ []; comparisons = both 0 Equal 1 0 ∷ both 0 Equal 1 1 ∷ [] }

abbrev pub held_or_void : Denial
held_or_void = apart 1 2

abbrev pub held_or_flood : Denial
held_or_flood = apart 1 4

abbrev pub ice_or_flood : Denial
ice_or_flood = apart 0 4

-- no two clubs have a pad at a slot
abbrev pub one_club : Denial
one_club = record { atoms = 3 ∷ 3 ∷ []; comparisons = both 0 Equal 1 0 ∷ both 0 Equal 1 1 ∷ both 0 Unequal 1 2 ∷ [] }

-- no three pads are flooded at a slot
abbrev pub three_flooded : Denial
three_flooded = record { atoms = 4 ∷ 4 ∷ 4 ∷ []; comparisons = both 0 Less 1 0 ∷ both 1 Less 2 0 ∷ both 0 Equal 1 1 ∷ both 1 Equal 2 1 ∷ [] }

-- no pad above 5 is held
abbrev pub five_pads : Denial
five_pads = record { atoms = 1 ∷ []; comparisons = with_number 0 0 Greater 5 ∷ [] }

-- THE PLANS

-- the pads and slots of a relation's rows
abbrev pub all_of : ℕ → Node
all_of relation = Leaf relation 2 (Open ∷ Open ∷ Open ∷ Open ∷ [])

-- the slots of the floods on a pad
abbrev pub floods_on : ℕ → Node
floods_on pad = Leaf 4 2 (Fixed pad ∷ Open ∷ Open ∷ Open ∷ [])

-- the pads and slots of a club's parties
abbrev pub parties_of : ℕ → Node
parties_of club = Leaf 3 3 (Open ∷ Open ∷ Fixed club ∷ Open ∷ [])

-- two nodes and the pair of them
abbrev pub two : Op → Node → Node → List Node
two op left right = left ∷ right ∷ Pair op 0 1 ∷ []

abbrev pub ice_not_held : List Node
ice_not_held = two Difference (all_of 0) (all_of 1)

-- THE VERDICTS

-- the line is an answer in every reading of the rows by the rules; there always is one, as each of these rules has an atom
abbrev pub IsSure : List Denial → List Row → List Node → List ℕ → Type 0
IsSure rules rows nodes line = Sure rows (conflicts rows rules) nodes (padded line)

-- these rows are a core of it, which shows that it is not
abbrev pub HasCore : List Denial → List Row → List Node → List ℕ → List Row → Type 0
HasCore rules rows nodes line core = Core rows (conflicts rows rules) nodes (padded line) core

-- 1. Where no row is held nothing is sure, and no row is needed to show it. Each rule has an atom, as every rule that is accepted.
abbrev pub NothingHeld : Type 0
NothingHeld = (rules : List Denial) → HasAtoms rules → (nodes : List Node) (columns : List ℕ) → Core [] (conflicts [] rules) nodes columns []

-- 2. Ice that is not held is sure though the pad is void: a void pad is not held.
abbrev pub IceNotHeld : Type 0
IceNotHeld = IsSure (held_or_void ∷ []) (ice ∷ void ∷ []) ice_not_held (1 ∷ 40 ∷ [])

-- 3. Once the pad is both held and void it may be held, so it is not.
abbrev pub IceMaybeHeld : Type 0
IceMaybeHeld = HasCore (held_or_void ∷ []) (ice ∷ void ∷ held ∷ []) ice_not_held (1 ∷ 40 ∷ []) (held ∷ [])

-- 4. Pad 6 is held against a rule. Over all rows this is no answer, and yet it is sure, since no reading has it held.
abbrev pub HeldInNone : Type 0
HeldInNone = (is_answer ice_not_held (on_pad 0 6 ∷ on_pad 1 6 ∷ []) (padded (6 ∷ 40 ∷ [])) ≡ false) × IsSure (five_pads ∷ []) (on_pad 0 6 ∷ on_pad 1 6 ∷ []) ice_not_held (6 ∷ 40 ∷ [])

-- 5. Of two clubs on one pad one keeps the other out.
abbrev pub OneOfTwoClubs : Type 0
OneOfTwoClubs = HasCore (one_club ∷ []) (party 7 ∷ party 9 ∷ []) (parties_of 7 ∷ []) (1 ∷ 40 ∷ []) (party 9 ∷ [])

-- 6. That it is one of the two is sure.
abbrev pub EitherClub : Type 0
EitherClub = IsSure (one_club ∷ []) (party 7 ∷ party 9 ∷ []) (two Union (parties_of 7) (parties_of 9)) (1 ∷ 40 ∷ [])

-- 7. Of three floods that are not to stand together, two keep the third out.
abbrev pub OneOfThreeFloods : Type 0
OneOfThreeFloods = HasCore (three_flooded ∷ []) (flood 1 ∷ flood 2 ∷ flood 3 ∷ []) (floods_on 1 ∷ []) (40 ∷ []) (flood 2 ∷ flood 3 ∷ [])

-- 8. That one of two pads is flooded is sure: each reading leaves out one of the three.
abbrev pub EitherFlood : Type 0
EitherFlood = IsSure (three_flooded ∷ []) (flood 1 ∷ flood 2 ∷ flood 3 ∷ []) (two Union (floods_on 1) (floods_on 2)) (40 ∷ [])

-- 9. Of the two rows of a conflict both can be out: each is kept out by another row.
abbrev pub BothOut : Type 0
BothOut = HasCore (held_or_flood ∷ held_or_void ∷ ice_or_flood ∷ []) (held ∷ flood 1 ∷ void ∷ ice ∷ []) (two Union (all_of 1) (all_of 4)) (1 ∷ 40 ∷ []) (void ∷ ice ∷ [])

-- THE NINE

pub record RinkReadings : Type 0 where
  pub nothing_held : NothingHeld
  pub ice_not_held : IceNotHeld
  pub ice_maybe_held : IceMaybeHeld
  pub held_in_none : HeldInNone
  pub one_of_two_clubs : OneOfTwoClubs
  pub either_club : EitherClub
  pub one_of_three_floods : OneOfThreeFloods
  pub either_flood : EitherFlood
  pub both_out : BothOut
