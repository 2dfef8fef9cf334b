-- `retain`: what has passed so far stands in front.
use Rattle.std.proofs.Common.{◌≡◌, ◌≤◌, Bool}
use Rattle.std.specs.Fn.{FnReturnsAt}
use Rattle.ordered.proofs.Filtering.{Filtered}
use Rattle.ordered.proofs.removal.retain.Given as goal

abbrev pub invariant-loop-i : goal.invariant-loop-i
invariant-loop-i g l =
    (l.passed ≤ l.i)
    × ((passes : g.row.T.Denot → Bool) → ((x : g.row.T.Denot) (b : Bool) → FnReturnsAt g.F.Fn l.keep x b → b ≡ passes x) → Filtered passes l.initial.items l.items l.passed l.i)
