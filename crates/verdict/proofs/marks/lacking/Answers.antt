use Rattle.std.proofs.Common.{take, subst, rules}
use Rattle.verdict.specs.Lacking.{LackSays}
use Rattle.verdict.proofs.Lacks.{lack_in, lack_one}
use Rattle.verdict.proofs.marks.lacking.Goals as goal
use Rattle.verdict.proofs.marks.lacking.Goals.{then-not-says+in-Nothing, else-not-says}

pub loop-place-preserved : goal.loop-place-preserved
loop-place-preserved c =
    let marks = c.args.marks.now in
    let places = c.args.places.now in
    let i = c.loop-place.place-index in
    elim c.if-not-says.branch [
      | then-not-says+in-Nothing w ↦ rw w.lack-is (lack_one marks places i c.loop-place-test.true (search rules) (subst (LackSays marks (take i places)) w.in-Nothing.is c.loop-place.invariant))
      | else-not-says w ↦ rw w.lack-is (lack_in marks places i c.loop-place-test.true c.loop-place.lack (search rules) c.loop-place.invariant)
    ]
