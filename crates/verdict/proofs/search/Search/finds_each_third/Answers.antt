use Rattle.verdict.specs.Marking.{lists_of}
use Rattle.verdict.proofs.Turned.{three_stop}
use Rattle.verdict.proofs.search.Search.finds_each_third.Goals as goal

pub returns-then-not-seek : goal.returns-then-not-seek
returns-then-not-seek c =
    three_stop (lists_of c.args.self.now.conflicts.now) c.args.self.now.ins.now c.args.self.now.outs.now c.args.first c.args.second c.loop-third.third
    c.requires.first c.requires.second c.loop-third-test.true c.if-not-seek.ensures
