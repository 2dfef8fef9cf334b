use Rattle.std.proofs.Common.{ℕ, ◌<◌}
use Rattle.rules.specs.Entries.{listing}
use Rattle.rules.specs.Rules.{denial}
use Rattle.rules.specs.Searching.{Grown}
use Rattle.rules.proofs.Sharing.{HasAt}
use Rattle.rules.proofs.upkeep.Arrival.add_share.Given as goal

abbrev pub invariant-loop-atom : goal.invariant-loop-atom
invariant-loop-atom g l =
    Grown (g.S.Source.model l.self.source.now).places (denial l.rule) l.number (listing l.initial.list) (listing l.list)
    × ((a : ℕ) → a < l.atom → HasAt (g.S.Source.model l.self.source.now).places (denial l.rule) l.self.place (listing l.list) a)
