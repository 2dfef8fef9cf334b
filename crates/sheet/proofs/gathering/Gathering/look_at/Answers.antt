use Rattle.std.proofs.Common.{refl}
use Rattle.rules.specs.Entries.{listing}
use Rattle.plan.specs.Plans.{nodes_of}
use Rattle.sheet.proofs.Steps.{not_sure, entered_says, passed_says}
use Rattle.sheet.proofs.gathering.Gathering.look_at.Goals as goal

pub returns-then-is_sure : goal.returns-then-is_sure
returns-then-is_sure g c upto these next =
    entered_says (g.S.Source.model c.args.self.now.source.now) (listing c.args.self.now.conflicts.now) (nodes_of c.args.self.now.plan.now) c.args.lines.now c.enter.new.items c.args.count c.requires.within c.enter.auto.items upto c.args.line next these
    c.if-is_sure.ensures c.enter.result c.enter.ensures

pub returns : goal.returns
returns g c upto these next =
    let s = g.S.Source.model c.args.self.now.source.now in
    passed_says s (listing c.args.self.now.conflicts.now) (nodes_of c.args.self.now.plan.now) c.args.lines.now c.args.lines.now c.args.count c.requires.within refl upto c.args.line next these
    (not_sure s (listing c.args.self.now.conflicts.now) (nodes_of c.args.self.now.plan.now) c.args.line.columns c.is_sure.new.marks c.if-is_sure.ensures)
