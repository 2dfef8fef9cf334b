use Rattle.std.proofs.Common.{subst}
use Rattle.store.specs.Held.{rows_of}
use Rattle.rules.specs.Entries.{listing}
use Rattle.plan.specs.Plans.{nodes_of}
use Rattle.candidates.specs.Candidates.{NextSays}
use Rattle.sheet.proofs.Ends.{smaller, gone_on, ended}
use Rattle.sheet.proofs.gathering.Gathering.gather.Goals as goal

pub loop-line-smaller : goal.loop-line-smaller
loop-line-smaller g c = smaller (nodes_of c.args.self.now.plan.now) (rows_of (g.S.Source.model c.args.self.now.source.now).places) c.loop-line.last c.in-Some.line c.in-Some.ensures

pub loop-line-preserved : goal.loop-line-preserved
loop-line-preserved g c =
    let s = g.S.Source.model c.args.self.now.source.now in
    gone_on s (listing c.args.self.now.conflicts.now) (nodes_of c.args.self.now.plan.now) c.args.lines.now c.loop-line.lines c.look_at.new.lines c.loop-line.last c.in-Some.line c.loop-line.count c.in_ok-count.count c.loop-line.auto.lines
    c.loop-line.invariant (c.in_ok-count.ensures c.loop-line.last c.loop-line.invariant.gathered c.in-Some.ensures)

pub returns : goal.returns
returns g c =
    let s = g.S.Source.model c.args.self.now.source.now in
    ended s (listing c.args.self.now.conflicts.now) c.args.self.now.plan.now c.requires.some c.args.lines.now c.loop-line.lines c.loop-line.last c.loop-line.count c.loop-line.invariant
    (subst (NextSays (nodes_of c.args.self.now.plan.now) (rows_of s.places) c.loop-line.last) c.in_default.is c.next_candidate.ensures)
