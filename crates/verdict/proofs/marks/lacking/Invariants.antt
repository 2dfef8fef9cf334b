use Rattle.std.proofs.Common.{take}
use Rattle.verdict.specs.Lacking.{LackSays}
use Rattle.verdict.proofs.marks.lacking.Given as goal

abbrev pub invariant-loop-place : goal.invariant-loop-place
invariant-loop-place l = LackSays l.marks (take l.place-index l.places) l.lack
