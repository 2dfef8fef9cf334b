-- A book: its rules, and that its list has each conflict once and nothing more.
use Rattle.std.specs.Prelude.{◌≡◌, Bool, true, ◌&&◌, List, [], ◌∷◌, ◌++◌, map, Ok, Err, Result, ◌==◌}
use Rattle.ordered.specs.Lists.{items_in}
use Rattle.ordered.specs.declared.entry.Full.{Full as TooFull}
use Rattle.store.specs.Lists.{any}
use Rattle.store.specs.Store.{Store}
use Rattle.rules.specs.Entries.{listing}
use Rattle.store.specs.Held.{rows_of}
use Rattle.rules.specs.Listing.{Listed, Lists, is_conflict, same_places}
use Rattle.rules.specs.Rules.{Denial, denial, AtMost}
use Rattle.rules.specs.Sets.{distinct}
use Rattle.book.specs.declared.log.Log.{Log}

-- the rules as they were taken
abbrev pub rules_of : Log → List Denial
rules_of log = map denial (items_in log.rules)

-- the list of a log is the conflicts of the rows at these places under its rules: each once, and nothing more
abbrev pub Exact : Store → Log → Type 0
Exact s log = Lists (is_conflict s.places (rules_of log)) (listing log.conflicts)

-- a rule is put last and the list is exact with it; or there are more than 1,024 conflicts, and rules and list are as they were
abbrev pub RuledSays : Store → Log → Log → Denial → Result Unit TooFull → Type 0
RuledSays s before after rule (Ok _) = (rules_of after ≡ rules_of before ++ (rule ∷ [])) × Exact s after
RuledSays s before after rule (Err _) = (rules_of after ≡ rules_of before) × (listing after.conflicts ≡ listing before.conflicts) × (AtMost 1024 (rows_of s.places) (rules_of before ++ (rule ∷ [])) → ⊥)

-- The same by tests, for a struct that carries it as a fact: a list has a conflict ...
abbrev pub has_listed : List Listed → Listed → Bool
has_listed listed c = any (λ d. same_places c d && c.rule == d.rule) listed

-- ... each that it has is one of the rows and rules ...
abbrev pub Right : Store → Log → Type 0
Right s log = (c : Listed) → has_listed (listing log.conflicts) c ≡ true → is_conflict s.places (rules_of log) c ≡ true

-- ... it has each of these ...
abbrev pub Full : Store → Log → Type 0
Full s log = (c : Listed) → is_conflict s.places (rules_of log) c ≡ true → has_listed (listing log.conflicts) c ≡ true

-- ... and no set of places twice
abbrev pub Once : Log → Type 0
Once log = distinct same_places (listing log.conflicts) ≡ true
