use Rattle.page.proofs.Laid.{Laid}
use Rattle.page.proofs.writing.write_page.Given as goal

abbrev pub invariant-loop-place : goal.invariant-loop-place
invariant-loop-place l = Laid l.places l.bytes l.place
