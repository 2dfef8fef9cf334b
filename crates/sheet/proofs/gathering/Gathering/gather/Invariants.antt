use Rattle.store.specs.Held.{rows_of}
use Rattle.rules.specs.Entries.{listing}
use Rattle.plan.specs.Plans.{nodes_of}
use Rattle.sheet.specs.Gathering.{Grown}
use Rattle.sheet.proofs.Ends.{left}
use Rattle.sheet.proofs.gathering.Gathering.gather.Given as goal

abbrev pub invariant-loop-line : goal.invariant-loop-line
invariant-loop-line g l = Grown (g.S.Source.model l.self.source.now) (listing l.self.conflicts.now) (nodes_of l.self.plan.now) l.initial.lines l.lines l.last 0 l.count

abbrev pub decreases-loop-line : goal.decreases-loop-line
decreases-loop-line g l = left (nodes_of l.self.plan.now) (rows_of (g.S.Source.model l.self.source.now).places) l.last
