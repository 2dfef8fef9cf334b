-- What a conflict in memory stands for, and the order of the list.
use Rattle.std.specs.Prelude.{take}
use Rattle.std.specs.declared.cmp.Ordering.{Ordering}
use Rattle.ordered.specs.Columnwise.{columnwise}
use Rattle.rules.specs.Listing.{Listed}
use Rattle.rules.specs.declared.conflict.Conflict.{Conflict}

-- the places that are in use, and the rule
abbrev pub listed_as : Conflict → Listed
listed_as c = record { places = take c.size c.places; rule = c.rule }

-- by the places alone: a conflict whose places begin another's comes first
abbrev pub by_places : Listed → Listed → Ordering
by_places a b = columnwise a.places b.places
