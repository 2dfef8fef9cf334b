use Rattle.std.proofs.Common.{◌≡◌, take, drop}
use Rattle.ordered.specs.Lists.{items_in}
use Rattle.plan.specs.Filling.{leaves_before}
use Rattle.plan.specs.Plans.{nodes_of}
use Rattle.plan.specs.Truths.{truths}
use Rattle.plan.proofs.plan.Plan.holds.Given as goal

abbrev pub invariant-loop-k : goal.invariant-loop-k
invariant-loop-k l = (l.told.rest.now ≡ drop (leaves_before (nodes_of l.self) l.k) l.truth) × (items_in l.truths ≡ take l.k (truths l.self l.line.columns l.truth))
