-- What the minutes of a run keep of it.
use Rattle.std.specs.Prelude.{◌≡◌, List, [], map, take}
use Rattle.ordered.specs.Lists.{items_in}
use Rattle.book.specs.Outcomes.{told_of}
use Rattle.book.specs.Plain.{Told, taken, ruled, sure, unsure, listed, refused}
use Rattle.page_examples.specs.declared.minutes.Minutes.{Minutes}

-- what is told, without the rows of a core and the lines of a sheet: these are in the caller's memory
abbrev pub in_short : Told → Told
in_short taken = taken
in_short (ruled n) = ruled n
in_short sure = sure
in_short (unsure core) = unsure []
in_short (listed lines) = listed []
in_short (refused n) = refused n

-- the outcomes that are kept are the first sixteen of those told, in short
abbrev pub Keeps : Minutes → List Told → Type 0
Keeps minutes tolds = map (told_of [] []) (items_in minutes.outcomes) ≡ map in_short (take 16 tolds)
