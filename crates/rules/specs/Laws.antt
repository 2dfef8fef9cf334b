-- The theorems: what is held and what conflicts when a row or a rule comes or goes, and what readings there are.
use Rattle.std.specs.Prelude.{◌≡◌, ℕ, ◌+◌, ◌<◌, ◌≤◌, Bool, true, false, not, ◌&&◌, ◌||◌, List, [], ◌∷◌, ◌++◌, map, length, Some, None, Decides, filter, Option, ◌==◌, ◌≢◌, nat_eq, nat_le, nat_lt, slice_index_or, slice_set}
use mathlib.Core.List.{Memᴰ}
use Rattle.store.specs.Lists.{any, all}
use Rattle.store.specs.Places.{OnceIn}
use Rattle.store.specs.Rows.{same_row}
use Rattle.store.specs.Store.{is_row, is_empty}
use Rattle.store.specs.declared.row.Row.{Row}
use Rattle.rules.specs.Sets.{Rows, among, with, distinct}
use Rattle.rules.specs.Rules.{Denial, forbidden, conflicts, AtMost}
use Rattle.rules.specs.Readings.{clear, reading}
use Rattle.store.specs.Held.{rows_of, empties}
use Rattle.rules.specs.Listing.{Listed, Lists, AlikeBut, rows_at, is_held, ascending, forbids, is_conflict, same_places, touches}
use Rattle.rules.specs.Choosing.{SameSet, Choice, Between, up_to}

-- WHAT IS HELD

-- a row is held where it stands at some place
abbrev pub HeldRows : Type 0
HeldRows = (table : List (Option Row)) (row : Row) → among (rows_of table) row ≡ any (is_row row) table

-- when a row is put at an empty place, it and the rows of before are held
abbrev pub PutRows : Type 0
PutRows = (table : List (Option Row)) (p : ℕ) (row : Row) → p < length table → slice_index_or table p None ≡ None →
    (r : Row) → among (rows_of (slice_set table p (Some row))) r ≡ with row (among (rows_of table)) r

-- when a row is struck, the rows of before are held but it
abbrev pub StruckRows : Type 0
StruckRows = (table : List (Option Row)) → OnceIn table → (p : ℕ) (row : Row) → slice_index_or table p None ≡ Some row →
    (r : Row) → among (rows_of (slice_set table p None)) r ≡ (among (rows_of table) r && not (same_row r row))

-- a row that is put uses up one empty place
abbrev pub PutEmpties : Type 0
PutEmpties = (table : List (Option Row)) (p : ℕ) (row : Row) → p < length table → slice_index_or table p None ≡ None →
    empties table ≡ empties (slice_set table p (Some row)) + 1

-- a row that is struck gives one back
abbrev pub StruckEmpties : Type 0
StruckEmpties = (table : List (Option Row)) (p : ℕ) (row : Row) → slice_index_or table p None ≡ Some row →
    empties (slice_set table p None) ≡ empties table + 1

-- some place is empty where the number of empty places is not 0
abbrev pub SomeEmpty : Type 0
SomeEmpty = (table : List (Option Row)) → any is_empty table ≡ nat_lt 0 (empties table)

-- ONE PLACE, ONE RULE

-- where p is empty, the conflicts are those that there would be with a row at p, but for the ones that touch p
abbrev pub OnePlaceLess : Type 0
OnePlaceLess = (less more : List (Option Row)) (p : ℕ) → AlikeBut p more less → slice_index_or less p None ≡ None →
    (rules : List Denial) (c : Listed) → is_conflict less rules c ≡ (is_conflict more rules c && not (touches p c))

-- after the row at p is struck, the conflicts are the listed ones that do not touch p
abbrev pub Strikes : Type 0
Strikes = (less more : List (Option Row)) (p : ℕ) → AlikeBut p more less → slice_index_or less p None ≡ None →
    (rules : List Denial) (listed : List Listed) → Lists (is_conflict more rules) listed → Lists (is_conflict less rules) (filter (λ c. not (touches p c)) listed)

-- the rule, told after the others, is the first to forbid the rows at the conflict's places
abbrev pub brings : List (Option Row) → List Denial → Denial → Listed → Bool
brings table rules rule c =
    (c.rule == length rules) &&
    (ascending c.places && (all (λ p. is_held (slice_index_or table p None)) c.places && (not (any (forbids table c.places) rules) && forbids table c.places rule)))

-- one more rule leaves the conflicts as they are, and brings those that it is the first to forbid
abbrev pub OneRuleMore : Type 0
OneRuleMore = (table : List (Option Row)) (rules : List Denial) (rule : Denial) (c : Listed) →
    is_conflict table (rules ++ (rule ∷ [])) c ≡ (is_conflict table rules c || brings table rules rule c)

-- without the last rule, the conflicts are those with a lower rule's number
abbrev pub OneRuleLess : Type 0
OneRuleLess = (table : List (Option Row)) (rules : List Denial) (rule : Denial) (c : Listed) →
    is_conflict table rules c ≡ (is_conflict table (rules ++ (rule ∷ [])) c && nat_lt c.rule (length rules))

-- THE SEARCH

-- the rows at some places are forbidden by a rule just where these places, in some order, are a choice that breaks it
abbrev pub ByChoice : Type 0
ByChoice = (table : List (Option Row)) → OnceIn table → (rule : Denial) (places : List ℕ) → all (λ p. is_held (slice_index_or table p None)) places ≡ true →
    Decides (forbids table places rule) ((chosen : List ℕ) × Choice table rule chosen × SameSet chosen places)

-- a choice has a place for each atom, all different
abbrev pub ChoiceApart : Type 0
ChoiceApart = (table : List (Option Row)) (rule : Denial) (chosen : List ℕ) → Choice table rule chosen → (length chosen ≡ length rule.atoms) × (distinct nat_eq chosen ≡ true)

-- two ascending lists of the same places are one
abbrev pub OneOrder : Type 0
OneOrder = (a b : List ℕ) → ascending a ≡ true → ascending b ≡ true → SameSet a b → a ≡ b

-- before a row is put, the list has what is known of after: the conflicts that do not touch its place
abbrev pub PutStarts : Type 0
PutStarts = (less more : List (Option Row)) (p : ℕ) → AlikeBut p more less → slice_index_or less p None ≡ None →
    (rules : List Denial) (listed : List Listed) → Lists (is_conflict less rules) listed → Lists (up_to more rules (λ places. not (any (nat_eq p) places)) 0) listed

-- before a rule is added, the list has the conflicts of the rules before it
abbrev pub RuleStarts : Type 0
RuleStarts = (table : List (Option Row)) (rules : List Denial) (rule : Denial) (listed : List Listed) →
    Lists (is_conflict table rules) listed → Lists (up_to table (rules ++ (rule ∷ [])) (λ places. false) (length rules)) listed

-- a list that has what the first k rules make is on its way to what one more makes
abbrev pub RoundStarts : Type 0
RoundStarts = (table : List (Option Row)) (rules : List Denial) (known : List ℕ → Bool) (k : ℕ) (listed : List Listed) →
    Lists (up_to table rules known k) listed → Between (up_to table rules known k) (up_to table rules known (k + 1)) listed

-- on that way, a choice that breaks the k-th rule and whose places are not listed yet is a conflict by that rule
abbrev pub Enters : Type 0
Enters = (table : List (Option Row)) (rules : List Denial) (known : List ℕ → Bool) (k : ℕ) (listed : List Listed) →
    ((c : Listed) → up_to table rules known k c ≡ true → Memᴰ c listed) →
    k < length rules → (other : Denial) (chosen places : List ℕ) → Choice table (slice_index_or rules k other) chosen → ascending places ≡ true → SameSet chosen places →
    known places ≡ false → ((c : Listed) → Memᴰ c listed → c.places ≢ places) →
    up_to table rules known (k + 1) (record { places = places; rule = k }) ≡ true

-- when the places of each choice that breaks the k-th rule are listed, the list has come one rule further
abbrev pub Round : Type 0
Round = (table : List (Option Row)) → OnceIn table → (rules : List Denial) (known : List ℕ → Bool) (k : ℕ) (listed : List Listed) →
    Between (up_to table rules known k) (up_to table rules known (k + 1)) listed → (other : Denial) →
    ((chosen places : List ℕ) → Choice table (slice_index_or rules k other) chosen → SameSet chosen places → known places ≡ false → (c : Listed) × Memᴰ c listed × SameSet c.places places) →
    Lists (up_to table rules known (k + 1)) listed

-- after the last rule the list has all conflicts
abbrev pub RoundEnds : Type 0
RoundEnds = (table : List (Option Row)) (rules : List Denial) (known : List ℕ → Bool) (k : ℕ) → length rules ≤ k →
    (listed : List Listed) → Lists (up_to table rules known k) listed → Lists (is_conflict table rules) listed

-- a search for the conflicts of a new row that is given up on its way is undone by taking out what touches its place
abbrev pub PutUndone : Type 0
PutUndone = (less more : List (Option Row)) (p : ℕ) → AlikeBut p more less → slice_index_or less p None ≡ None →
    (rules : List Denial) (k : ℕ) (listed : List Listed) → Between (up_to more rules (λ places. not (any (nat_eq p) places)) k) (is_conflict more rules) listed → Lists (is_conflict less rules) (filter (λ c. not (touches p c)) listed)

-- and one for a new rule's by taking out what has that rule's number
abbrev pub RuleUndone : Type 0
RuleUndone = (table : List (Option Row)) (rules : List Denial) (rule : Denial) (listed : List Listed) →
    Between (up_to table (rules ++ (rule ∷ [])) (λ places. false) (length rules)) (is_conflict table (rules ++ (rule ∷ []))) listed → Lists (is_conflict table rules) (filter (λ c. nat_lt c.rule (length rules)) listed)

-- CONFLICTS OF ROWS

-- a list of rows is one of the conflicts just where its rows are held and break some rule
abbrev pub AreConflicts : Type 0
AreConflicts = (rows : List Row) (rules : List Denial) (c : List Row) → Decides (forbidden rows rules c) (Memᴰ c (conflicts rows rules))

-- the number of listed conflicts tells whether there are at most n
abbrev pub Counted : Type 0
Counted = (table : List (Option Row)) → OnceIn table → (rules : List Denial) (listed : List Listed) → Lists (is_conflict table rules) listed →
    (n : ℕ) → Decides (nat_le (length listed) n) (AtMost n (rows_of table) rules)

-- more than n different conflicts, be they all or not, are too many
abbrev pub TooMany : Type 0
TooMany = (table : List (Option Row)) → OnceIn table → (rules : List Denial) (some : List Listed) →
    all (is_conflict table rules) some ≡ true → distinct same_places some ≡ true → (n : ℕ) → n < length some → AtMost n (rows_of table) rules → ⊥

-- so a list of n different ones cannot take one more
abbrev pub OneTooMany : Type 0
OneTooMany = (table : List (Option Row)) → OnceIn table → (rules : List Denial) (listed : List Listed) →
    ((c : Listed) → Memᴰ c listed → is_conflict table rules c ≡ true) → distinct same_places listed ≡ true →
    (c : Listed) → is_conflict table rules c ≡ true → ((b : Listed) → Memᴰ b listed → b.places ≢ c.places) → AtMost (length listed) (rows_of table) rules → ⊥

-- READINGS

-- each row of S is one of R
abbrev pub Part : Rows → Rows → Type 0
Part S R = (r : Row) → S r ≡ true → R r ≡ true

-- a set with no whole conflict is part of a reading
abbrev pub Extends : Type 0
Extends = (held : List Row) (conflicts : List (List Row)) (S : Rows) → clear conflicts S ≡ true → (R : Rows) × (reading held conflicts R ≡ true) × Part S R

-- each rule has an atom
abbrev pub HasAtoms : List Denial → Type 0
HasAtoms rules = (rule : Denial) → Memᴰ rule rules → 0 < length rule.atoms

-- so there is a reading
abbrev pub SomeReading : Type 0
SomeReading = (held : List Row) (rules : List Denial) → HasAtoms rules → (R : Rows) × (reading held (conflicts held rules) R ≡ true)

-- the readings by the listed places are the readings by the rules
abbrev pub SameReadings : Type 0
SameReadings = (table : List (Option Row)) (rules : List Denial) (listed : List Listed) → Lists (is_conflict table rules) listed → (R : Rows) →
    reading (rows_of table) (map (λ c. rows_at table c.places) listed) R ≡ reading (rows_of table) (conflicts (rows_of table) rules) R

-- lists with the same rows in them have the same number of conflicts and the same readings
abbrev pub SameMembers : Type 0
SameMembers = (a b : List Row) → ((r : Row) → among a r ≡ among b r) → (rules : List Denial) →
    ((n : ℕ) → AtMost n a rules → AtMost n b rules) × ((R : Rows) → reading a (conflicts a rules) R ≡ reading b (conflicts b rules) R)

-- a reading is about the rows held alone
abbrev pub OnlyHeld : Type 0
OnlyHeld = (held : List Row) (rules : List Denial) (R S : Rows) → ((r : Row) → among held r ≡ true → R r ≡ S r) →
    reading held (conflicts held rules) R ≡ reading held (conflicts held rules) S
