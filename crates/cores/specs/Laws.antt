-- The theorems: what the search over places finds is what a verdict says of rows.
use Rattle.std.specs.Prelude.{◌≡◌, ℕ, ◌/◌, ◌%◌, ◌^◌, ◌<◌, ◌≤◌, Bool, true, false, List, [], ◌∷◌, ◌++◌, map, length, Option, ◌==◌, nat_eq, slice_index, slice_index_or}
use Rattle.store.specs.Held.{rows_of}
use Rattle.store.specs.Lists.{any, all}
use Rattle.store.specs.Places.{OnceIn}
use Rattle.store.specs.Store.{Store}
use Rattle.store.specs.declared.row.Row.{Row}
use Rattle.rules.specs.Sets.{distinct}
use Rattle.rules.specs.Rules.{Denial, conflicts}
use Rattle.rules.specs.Listing.{Listed, Lists, rows_at, is_conflict}
use Rattle.rules.specs.Choosing.{SameSet}
use Rattle.plan.specs.Plans.{nodes_of}
use Rattle.plan.specs.Truths.{named_rows, plan_truth}
use Rattle.plan.specs.declared.node.Node.{Node}
use Rattle.plan.specs.declared.plan.Plan.{Plan}
use Rattle.cores.specs.Sure.{Sure, Core}
use Rattle.cores.specs.Ways.{ins_of, outs_of, possible, bits}
use Rattle.cores.specs.Backing.{one_of, clear_places, Small, all_held, HeldIn, without, backing, Real, Works, NoneWorks}
use Rattle.cores.specs.Searching.{NoneBeyond, fits, is_free, shut_out}
use Rattle.cores.specs.Settling.{listed_places, Located, lost_by, ByFirst, SomeWay, NoWay}

-- THE WORDS

-- a line that has a core is not sure
abbrev pub NeverBoth : Type 0
NeverBoth = (rows : List Row) (conflicts : List (List Row)) (nodes : List Node) (columns : List ℕ) (core : List Row) →
    Sure rows conflicts nodes columns → Core rows conflicts nodes columns core → ⊥

-- THE WAYS

-- no choices work for a way that says of one place that its row is in, and that it is out
abbrev pub InAndOut : Type 0
InAndOut = (C : List (List ℕ)) (ins outs choices : List ℕ) → Works C ins outs choices → (p : ℕ) → one_of ins p ≡ true → one_of outs p ≡ true → ⊥

-- a plan's truth depends on what is said of its leaves, and on nothing behind that
abbrev pub FirstTruths : Type 0
FirstTruths = (plan : Plan) (columns : List ℕ) → ByFirst (length (named_rows plan columns)) (plan_truth plan columns)

-- the i-th of a number's bits
abbrev pub BitAt : Type 0
BitAt = (number n i : ℕ) → i < n → slice_index_or (bits number n) i false ≡ (number / 2 ^ i % 2 == 1)

-- to go through all ways it is enough to go through their numbers, with n bits each, for any n from the number of leaves on
abbrev pub EveryWay : Type 0
EveryWay = (C : List (List ℕ)) (plan : Plan) (columns : List ℕ) (leaves : List (Option ℕ)) → length leaves ≡ length (named_rows plan columns) → (n : ℕ) → length leaves ≤ n →
    ((number : ℕ) → number < 2 ^ length leaves → lost_by plan columns (bits number n) ≡ true → possible leaves (bits number n) ≡ true → NoneWorks C (ins_of leaves (bits number n)) (outs_of leaves (bits number n))) →
    NoWay C (lost_by plan columns) leaves

-- FROM PLACES TO ROWS

-- where no way that loses the line can be, the line is sure
abbrev pub SureByPlaces : Type 0
SureByPlaces = (s : Store) → OnceIn s.places → (C : List (List ℕ)) → HeldIn s.places C → (plan : Plan) (columns : List ℕ) (leaves : List (Option ℕ)) →
    Located s (named_rows plan columns) leaves → NoWay C (lost_by plan columns) leaves →
    Sure (rows_of s.places) (map (rows_at s.places) C) (nodes_of plan) columns

-- where some way that loses the line can be, the rows at the places that are marked, each place taken once, are a core
abbrev pub CoreByPlaces : Type 0
CoreByPlaces = (s : Store) → OnceIn s.places → (C : List (List ℕ)) → HeldIn s.places C → Small C → (plan : Plan) (columns : List ℕ) (leaves : List (Option ℕ)) →
    Located s (named_rows plan columns) leaves → (B : List ℕ) → SomeWay C (lost_by plan columns) leaves B →
    (places : List ℕ) → SameSet places B → distinct nat_eq places ≡ true →
    Core (rows_of s.places) (map (rows_at s.places) C) (nodes_of plan) columns (rows_at s.places places)

-- both, where the conflicts are listed as those of some rules: what is found is about the conflicts by these rules
abbrev pub SureByRules : Type 0
SureByRules = (s : Store) → OnceIn s.places → (rules : List Denial) (listed : List Listed) → Lists (is_conflict s.places rules) listed →
    (plan : Plan) (columns : List ℕ) (leaves : List (Option ℕ)) → Located s (named_rows plan columns) leaves → NoWay (listed_places listed) (lost_by plan columns) leaves →
    Sure (rows_of s.places) (conflicts (rows_of s.places) rules) (nodes_of plan) columns

abbrev pub CoreByRules : Type 0
CoreByRules = (s : Store) → OnceIn s.places → (rules : List Denial) (listed : List Listed) → Lists (is_conflict s.places rules) listed → Small (listed_places listed) →
    (plan : Plan) (columns : List ℕ) (leaves : List (Option ℕ)) → Located s (named_rows plan columns) leaves → (B : List ℕ) → SomeWay (listed_places listed) (lost_by plan columns) leaves B →
    (places : List ℕ) → SameSet places B → distinct nat_eq places ≡ true →
    Core (rows_of s.places) (conflicts (rows_of s.places) rules) (nodes_of plan) columns (rows_at s.places places)

-- WHAT IS MARKED

-- one choice more marks the other places of its conflict too
abbrev pub PushMarks : Type 0
PushMarks = (C : List (List ℕ)) (ins outs chosen : List ℕ) (c : ℕ) → length chosen < length outs →
    backing C ins outs (chosen ++ c ∷ []) ≡ backing C ins outs chosen ++ without (slice_index outs (length chosen)) (slice_index_or C c [])

-- and the choices stay real if the conflict has the place that it is chosen for
abbrev pub PushReal : Type 0
PushReal = (C : List (List ℕ)) (outs chosen : List ℕ) (c : ℕ) → Real C outs chosen → c < length C → one_of (slice_index_or C c []) (slice_index outs (length chosen)) ≡ true →
    Real C outs (chosen ++ c ∷ [])

-- for at most six leaves, twelve places at most are marked, however many choices are made yet
abbrev pub FewMarked : Type 0
FewMarked = (C : List (List ℕ)) → Small C → (leaves : List (Option ℕ)) → length leaves ≤ 6 → (way : List Bool) (chosen : List ℕ) → Real C (outs_of leaves way) chosen →
    length (backing C (ins_of leaves way) (outs_of leaves way) chosen) ≤ 12

-- different places of a list are no more than the list is long
abbrev pub Different : Type 0
Different = (places marks : List ℕ) → distinct nat_eq places ≡ true → all (one_of marks) places ≡ true → length places ≤ length marks

-- every place that is marked has a row
abbrev pub HeldMarked : Type 0
HeldMarked = (s : Store) (C : List (List ℕ)) → HeldIn s.places C → (named : List Row) (leaves : List (Option ℕ)) → Located s named leaves → (way : List Bool) (chosen : List ℕ) →
    all_held s.places (backing C (ins_of leaves way) (outs_of leaves way) chosen) ≡ true

-- THE SEARCH

-- when a whole conflict is marked, nothing beyond works
abbrev pub Blocked : Type 0
Blocked = (C : List (List ℕ)) (ins outs chosen marks : List ℕ) → SameSet marks (backing C ins outs chosen) → clear_places C (one_of marks) ≡ false → NoneBeyond C ins outs chosen

-- when some row that is out, be it the next or a later one, has no conflict left that fits, nothing beyond works
abbrev pub NoneFits : Type 0
NoneFits = (C : List (List ℕ)) (ins outs chosen marks : List ℕ) → SameSet marks (backing C ins outs chosen) → (o : ℕ) → one_of outs o ≡ true → any (fits C marks o) C ≡ false →
    NoneBeyond C ins outs chosen

-- a conflict does not fit when another row of it is shut out
abbrev pub ShutOut : Type 0
ShutOut = (C : List (List ℕ)) (marks : List ℕ) (o : ℕ) (conflict : List ℕ) → any (shut_out C marks) (without o conflict) ≡ true → fits C marks o conflict ≡ false

-- when nothing works beyond any conflict that fits the next row that is out, nothing beyond works
abbrev pub EachTried : Type 0
EachTried = (C : List (List ℕ)) (ins outs chosen marks : List ℕ) → SameSet marks (backing C ins outs chosen) → length chosen < length outs →
    ((c : ℕ) → c < length C → fits C marks (slice_index outs (length chosen)) (slice_index_or C c []) ≡ true → NoneBeyond C ins outs (chosen ++ c ∷ [])) → NoneBeyond C ins outs chosen

-- when nothing works beyond a conflict that can be chosen at no cost, nothing works beyond any other: it is as good as each
abbrev pub FreeIsBest : Type 0
FreeIsBest = (C : List (List ℕ)) (ins outs chosen marks : List ℕ) → SameSet marks (backing C ins outs chosen) → length chosen < length outs →
    (c : ℕ) → c < length C → is_free marks (slice_index outs (length chosen)) (slice_index_or C c []) ≡ true → NoneBeyond C ins outs (chosen ++ c ∷ []) → NoneBeyond C ins outs chosen
