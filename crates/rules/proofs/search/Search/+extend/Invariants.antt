use Rattle.std.proofs.Common.{◌≡◌, ℕ, ◌-◌, ◌<◌, ◌≤◌, [], ◌∷◌, ◌++◌, length}
use Rattle.rules.specs.Beginnings.{places_in}
use Rattle.rules.specs.Entries.{listing}
use Rattle.rules.specs.Rules.{denial}
use Rattle.rules.specs.Searching.{Grown, HasAll}
use Rattle.rules.proofs.search.Search.+extend.Given as goal

abbrev pub decreases-extend : goal.decreases-extend
decreases-extend g l = 3 - length (places_in l.chosen)

abbrev pub invariant-loop-place : goal.invariant-loop-place
invariant-loop-place g l =
    (l.place-iterator.end ≡ l.initial.place-iterator.end)
    × Grown (g.S.Source.model l.self.source.now).places (denial l.self.rule.now) l.self.number (listing l.initial.list) (listing l.list)
    × ((q : ℕ) → l.initial.place-iterator.start ≤ q → q < l.place-iterator.start → HasAll (g.S.Source.model l.self.source.now).places (denial l.self.rule.now) l.self.scope (places_in l.chosen ++ q ∷ []) (listing l.list))
