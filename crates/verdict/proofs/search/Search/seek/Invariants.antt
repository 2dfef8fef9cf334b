use Rattle.std.proofs.Common.{◌≤◌, length}
use Rattle.verdict.specs.Marking.{lists_of}
use Rattle.verdict.proofs.Climbing.{Stack, cost}
use Rattle.verdict.proofs.search.Search.seek.Given as goal

abbrev pub invariant-found : goal.invariant-found
invariant-found l = Stack (lists_of l.self.conflicts.now) l.self.ins.now l.self.outs.now l.choices l.depth

abbrev pub decreases-found : goal.decreases-found
decreases-found l = cost (length (lists_of l.self.conflicts.now)) (length l.self.outs.now) l.choices l.depth

abbrev pub invariant-loop-choices : goal.invariant-loop-choices
invariant-loop-choices l = record {
  stack : Stack (lists_of l.self.conflicts.now) l.self.ins.now l.self.outs.now l.choices l.depth;
  less : cost (length (lists_of l.self.conflicts.now)) (length l.self.outs.now) l.choices l.depth ≤ cost (length (lists_of l.self.conflicts.now)) (length l.self.outs.now) l.initial.choices l.initial.depth;
}

abbrev pub decreases-loop-choices : goal.decreases-loop-choices
decreases-loop-choices l = cost (length (lists_of l.self.conflicts.now)) (length l.self.outs.now) l.choices l.depth
