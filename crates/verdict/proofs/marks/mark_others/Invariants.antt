use Rattle.std.proofs.Common.{take}
use Rattle.cores.specs.Backing.{without}
use Rattle.verdict.specs.Marking.{Adds}
use Rattle.verdict.proofs.marks.mark_others.Given as goal

abbrev pub invariant-loop-other : goal.invariant-loop-other
invariant-loop-other l = Adds (without l.place (take l.other-index l.places)) l.initial.marks l.marks
