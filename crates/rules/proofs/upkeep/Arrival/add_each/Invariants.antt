use Rattle.std.proofs.Common.{map}
use Rattle.rules.specs.Choosing.{up_to}
use Rattle.rules.specs.Entries.{listing}
use Rattle.rules.specs.Listing.{Lists}
use Rattle.rules.specs.Rules.{denial}
use Rattle.rules.specs.Upkeep.{away_from}
use Rattle.rules.proofs.upkeep.Arrival.add_each.Given as goal

abbrev pub invariant-loop-number : goal.invariant-loop-number
invariant-loop-number g l = Lists (up_to (g.S.Source.model l.self.source.now).places (map denial l.self.rules.now) (away_from l.self.place) l.number) (listing l.list)
