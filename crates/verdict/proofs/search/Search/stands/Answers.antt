use Rattle.std.proofs.Common.{sym, length, ◌-◌}
use Rattle.verdict.specs.Marking.{lists_of}
use Rattle.verdict.proofs.Hopeless.{taken, dropped, whole_stops, go_on}
use Rattle.verdict.proofs.search.Search.stands.Goals as goal

pub returns-then-settle : goal.returns-then-settle
returns-then-settle c =
    go_on c.args.self.now.conflicts.now c.args.self.now.ins.now c.args.self.now.outs.now c.args.choices.now c.lay.new.marks c.settle.new.marks _ c.are_open.result
    (λ x m. dropped (length c.args.choices.now) c.args.self.now.outs.now (taken (length c.args.self.now.outs.now - length c.args.choices.now) _ m))
    c.lay.ensures.shows c.settle.ensures.same c.settle.ensures.shuts (sym c.if-settle.ensures.clear) c.are_open.ensures

pub returns-else-settle : goal.returns-else-settle
returns-else-settle c =
    rw c.if-settle.false (whole_stops (lists_of c.args.self.now.conflicts.now) c.args.self.now.ins.now c.args.self.now.outs.now c.args.choices.now c.lay.new.marks c.lay.ensures.shows (sym c.if-settle.ensures.clear))
