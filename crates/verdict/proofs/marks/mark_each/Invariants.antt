use Rattle.std.proofs.Common.{take}
use Rattle.verdict.specs.Marking.{Adds}
use Rattle.verdict.proofs.marks.mark_each.Given as goal

abbrev pub invariant-loop-place : goal.invariant-loop-place
invariant-loop-place l = Adds (take l.place-index l.places) l.initial.marks l.marks
