use Rattle.verdict.proofs.Marked.{Written}
use Rattle.verdict.proofs.writing.write_core.Given as goal

abbrev pub invariant-loop-place : goal.invariant-loop-place
invariant-loop-place g l = Written (g.S.Source.model l.source).places l.marks l.initial.core l.core l.place l.count
