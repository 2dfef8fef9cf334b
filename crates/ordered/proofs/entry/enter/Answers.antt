-- `enter` keeps its promise on each of its three ways out.
use Rattle.std.proofs.Common.{◌≡◌, ◌+◌, take, subst, arith}
use Rattle.std.proofs.lemmas.List.{length-take}
use Rattle.ordered.specs.Promises.{Enters, Refuses}
use Rattle.ordered.proofs.Capped.{take_capped}
use Rattle.ordered.proofs.Outcomes.{again, added, refused}
use Rattle.ordered.proofs.entry.enter.Given as given
use Rattle.ordered.proofs.entry.enter.Goals as goal
use Rattle.ordered.proofs.entry.enter.Goals.{After-min-count}

-- the caller's count and the code's, which stops at the length, have one front
front : (g : given.Over) (c : After-min-count g) → take c.min-count.result c.args.items.now ≡ take c.args.count c.args.items.now
front g c = take_capped _ _ c.args.items.now c.min-count.ensures

pub returns-in_default : goal.returns-in_default
returns-in_default g c = subst (λ l. Enters g.T.Ordered.order c.args.x l c.args.items.now c.args.items.now c.min-count.result)
    (front g (goal.at.returns-in_default g c).After-min-count)
    (again g.met.T.Ordered.orderly _ (omega arith) c.in_default.ensures)

pub returns-then-count-items : goal.returns-then-count-items
returns-then-count-items g c = subst (λ l. Refuses g.T.Ordered.order c.args.x l c.args.items.now c.args.items.now)
    (front g (goal.at.returns-then-count-items g c).After-min-count)
    (refused g.met.T.Ordered.orderly (omega (arith, length-take c.min-count.result c.args.items.now)) c.in-Err.ensures)

pub returns : goal.returns
returns g c = subst (λ l. Enters g.T.Ordered.order c.args.x l c.args.items.now c.insert.new.items (c.min-count.result + 1))
    (front g (goal.at.returns g c).After-min-count)
    (added g.met.T.Ordered.orderly _ c.insert.ensures.list c.insert.ensures.rest (omega arith) c.in-Err.ensures)
