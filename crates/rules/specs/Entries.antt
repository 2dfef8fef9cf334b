-- The list of conflicts, and what is done to it.
use Rattle.std.specs.Prelude.{◌≡◌, false, List, map, length, Ok, Err, Result}
use Rattle.ordered.specs.Lists.{items_in}
use Rattle.ordered.specs.Order.{entered, listed}
use Rattle.ordered.specs.declared.entry.Full.{Full}
use Rattle.rules.specs.Listing.{Listed}
use Rattle.rules.specs.Views.{listed_as, by_places}
use Rattle.rules.specs.declared.list.Conflicts.{Conflicts}

-- the conflicts that the list holds
abbrev pub listing : Conflicts → List Listed
listing l = map listed_as (items_in l.items)

-- c stands at its place, unless its places were listed before; or they were not and the list is full, and it stays as it was
abbrev pub EnterSays : Listed → List Listed → List Listed → Result Unit Full → Type 0
EnterSays c before after (Ok done) = after ≡ entered by_places c before
EnterSays c before after (Err full) = (after ≡ before) × (length before ≡ 1024) × (listed by_places c before ≡ false)
