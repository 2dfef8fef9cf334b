-- `find`: what halving keeps, and that the places left grow fewer.
use Rattle.std.proofs.Common.{◌-◌, ◌≤◌, length, take}
use Rattle.ordered.proofs.Halving.{Narrowed}
use Rattle.ordered.proofs.lookup.find.Given as goal

abbrev pub invariant-loop-low : goal.invariant-loop-low
invariant-loop-low g l = (l.high ≤ length l.items) × Narrowed g.T.Ordered.order (take l.count l.items) l.x l.low l.high

abbrev pub decreases-loop-low : goal.decreases-loop-low
decreases-loop-low g l = l.high - l.low
