-- `retain` keeps what passes.
use Rattle.std.proofs.Common.{sym, arith}
use Rattle.std.proofs.lemmas.Fn.{says_at}
use Rattle.ordered.proofs.Filtering.{filtered_in, filtered_out, filtered_all}
use Rattle.ordered.proofs.removal.retain.Goals as goal
use Rattle.ordered.proofs.removal.retain.Goals.{then-keep, else-keep}

pub loop-i-preserved : goal.loop-i-preserved
loop-i-preserved g c =
    let (few, so) = c.loop-i.invariant in
    elim c.if-keep.branch [
      | then-keep w ↦ rw (w.items-is, w.passed-is) (omega arith, λ passes is. filtered_in (so passes is) (omega arith) c.index-items-i.is (sym (is _ _ (says_at g.F.Fn c.keep.ensures w.if-keep.true))))
      | else-keep w ↦ rw (w.items-is, w.passed-is) (omega arith, λ passes is. filtered_out (so passes is) (omega arith) c.index-items-i.is (sym (is _ _ (says_at g.F.Fn c.keep.ensures w.if-keep.false))))
    ]

pub returns-clause-kept : goal.returns-clause-kept
returns-clause-kept g c = λ passes is. filtered_all c.args.count (omega arith) (c.loop-i.invariant.1 passes is)
