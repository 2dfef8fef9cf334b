use Rattle.std.proofs.Common.{◌∙◌, subst}
use Rattle.cores.specs.Backing.{NoneWorks}
use Rattle.verdict.specs.Marking.{lists_of}
use Rattle.verdict.proofs.Turned.{turned_stops}
use Rattle.verdict.proofs.search.Search.can_start_at_each.Goals as goal

pub returns-then-not-can_start : goal.returns-then-not-can_start
returns-then-not-can_start c =
    let C = lists_of c.args.self.now.conflicts.now in
    let ins = c.args.self.now.ins.now in
    let outs = c.args.self.now.outs.now in
    turned_stops C ins outs c.loop-out.out-index c.loop-out-test.true
    (subst (NoneWorks C ins) (c.as_slice.ensures.items ∙ c.with_first-outs.ensures) c.if-not-can_start.ensures)
