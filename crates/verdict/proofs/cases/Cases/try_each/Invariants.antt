use Rattle.std.proofs.Common.{ℕ, ◌<◌}
use Rattle.cores.specs.Settling.{lost_by}
use Rattle.cores.specs.Ways.{bits}
use Rattle.verdict.specs.Marking.{lists_of}
use Rattle.verdict.specs.Trying.{Kept}
use Rattle.verdict.proofs.cases.Cases.try_each.Given as goal

abbrev pub invariant-loop-number : goal.invariant-loop-number
invariant-loop-number l = (k : ℕ) → k < l.number → Kept (lists_of l.self.conflicts.now) (lost_by l.self.plan.now l.self.line.now.columns) l.self.leaves.now (bits k 6)
