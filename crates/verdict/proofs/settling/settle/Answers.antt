use Rattle.std.proofs.Common.{◌≡◌, ◌<◌, true, false, sym, ◌∙◌, subst, arith, length}
use Rattle.store.specs.Lists.{all}
use Rattle.verdict.specs.Marking.{is_in}
use Rattle.verdict.proofs.Places.{byte_of, one_out}
use Rattle.verdict.proofs.Shutting.{alike, all_listed, whole_here, clear_more, in_still, shuts_more}
use Rattle.verdict.proofs.settling.settle.Goals as goal
use Rattle.verdict.proofs.settling.settle.Goals.{in-One, in-More}

pub returns-in-Nothing-clause-clear : goal.returns-in-Nothing-clause-clear
returns-in-Nothing-clause-clear c =
    sym (whole_here c.args.conflicts.now c.loop-conflict.conflict-index c.conflict-item.result c.loop-conflict-test.true c.conflict-item.is c.places.result.now c.places.ensures (is_in c.args.marks.now)
    (subst (λ S. all S c.places.result.now ≡ true) (alike c.loop-conflict.invariant.same) c.in-Nothing.ensures))

pub bounds-marks-place : goal.bounds-marks-place
bounds-marks-place c =
    let lt = byte_of c.places.result.now c.in-One.place (all_listed c.args.conflicts.now c.loop-conflict.conflict-index c.conflict-item.result c.loop-conflict-test.true c.conflict-item.is c.places.result.now c.places.ensures c.requires.inside) c.in-One.ensures.0 in
    omega arith

pub loop-conflict-preserved : goal.loop-conflict-preserved
loop-conflict-preserved c =
    let cs = c.args.conflicts.now in
    let i = c.loop-conflict.conflict-index in
    let x = c.conflict-item.result in
    let places = c.places.result.now in
    let h = c.loop-conflict.invariant in
    elim c.match-lacking.branch [
      | in-One w ↦
          let one = w.in-One.ensures in
          let lt = byte_of places w.in-One.place (all_listed cs i x c.loop-conflict-test.true c.conflict-item.is places c.places.ensures c.requires.inside) one.0 in
          let room : w.in-One.place < length c.loop-conflict.marks = omega arith in
          rw w.marks-is (record {
            clear = clear_more cs i x c.loop-conflict-test.true c.conflict-item.is places c.places.ensures (is_in c.args.marks.now) h.clear (subst (λ S. all S places ≡ false) (alike h.same) (one_out (is_in c.loop-conflict.marks) w.in-One.place places one.0 one.1));
            same = λ p. in_still cs i x c.loop-conflict-test.true c.conflict-item.is places c.places.ensures c.loop-conflict.marks w.in-One.place room one.0 one.1 one.2 p ∙ h.same p;
            shuts = shuts_more cs i x c.loop-conflict-test.true c.conflict-item.is places c.places.ensures c.loop-conflict.marks w.in-One.place room one.0 one.1 one.2 h.shuts;
          })
      | in-More w ↦ rw w.marks-is (record {
        clear = clear_more cs i x c.loop-conflict-test.true c.conflict-item.is places c.places.ensures (is_in c.args.marks.now) h.clear (subst (λ S. all S places ≡ false) (alike h.same) w.in-More.ensures);
        same = h.same;
        shuts = h.shuts;
      })
    ]
