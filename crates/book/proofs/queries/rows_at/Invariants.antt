use Rattle.std.proofs.Common.{◌≡◌, ◌≤◌, length, take}
use Rattle.ordered.specs.Lists.{items_in}
use Rattle.rules.specs.Listing.{rows_at}
use Rattle.book.proofs.queries.rows_at.Given as goal

abbrev pub invariant-loop-place : goal.invariant-loop-place
invariant-loop-place g l =
    (length (items_in l.rows) ≤ l.place-index) × (items_in l.rows ≡ rows_at (g.S.Source.model l.source).places (take l.place-index l.places))
