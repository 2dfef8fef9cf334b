-- What is promised of the list when a row or a rule comes.
use Rattle.std.specs.Prelude.{◌≡◌, ℕ, Bool, not, List, Ok, Err, Option, Result, nat_eq}
use Rattle.ordered.specs.declared.entry.Full.{Full}
use Rattle.store.specs.Lists.{any}
use Rattle.store.specs.declared.row.Row.{Row}
use Rattle.rules.specs.Choosing.{Between, up_to}
use Rattle.store.specs.Held.{rows_of}
use Rattle.rules.specs.Listing.{Listed, Lists, is_conflict}
use Rattle.rules.specs.Rules.{Denial, AtMost}

-- the list has just the conflicts, which are at most 1,024; or there are more, and it is as it was
abbrev pub AddSays : List (Option Row) → List Denial → List Listed → List Listed → Result Unit Full → Type 0
AddSays table rules before after (Ok done) = Lists (is_conflict table rules) after × AtMost 1024 (rows_of table) rules
AddSays table rules before after (Err full) = (after ≡ before) × (AtMost 1024 (rows_of table) rules → ⊥)

-- the conflict does not have the place
abbrev pub away_from : ℕ → List ℕ → Bool
away_from p places = not (any (nat_eq p) places)

-- the same before it is undone: there are more than 1,024, and the list has come up to some rule
abbrev pub RoundsSay : List (Option Row) → List Denial → (List ℕ → Bool) → List Listed → Result Unit Full → Type 0
RoundsSay table rules known after (Ok done) = Lists (is_conflict table rules) after
RoundsSay table rules known after (Err full) = ((k : ℕ) × Between (up_to table rules known k) (is_conflict table rules) after) × (AtMost 1024 (rows_of table) rules → ⊥)
