-- The theorem about readings.
use Rattle.std.specs.Prelude.{List}
use Rattle.store.specs.Store.{Store}
use Rattle.rules.specs.Laws.{HasAtoms}
use Rattle.rules.specs.Listing.{Listed, Lists, is_conflict}
use Rattle.rules.specs.Rules.{Denial}
use Rattle.sheet.specs.Sheets.{Readable}

-- where the conflicts are listed that there are by some rules, and each rule has an atom, there is a reading
abbrev pub ReadableByRules : Type 0
ReadableByRules = (s : Store) (rules : List Denial) (listed : List Listed) → Lists (is_conflict s.places rules) listed → HasAtoms rules → Readable s listed
