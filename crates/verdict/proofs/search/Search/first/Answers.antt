use Rattle.std.proofs.Common.{◌<◌, length, arith}
use Rattle.verdict.specs.Marking.{lists_of}
use Rattle.verdict.proofs.Hopeless.{all_left, first_left}
use Rattle.verdict.proofs.search.Search.first.Goals as goal

pub returns-then-not-says : goal.returns-then-not-says
returns-then-not-says c = λ chosen long stand.
    let next : length chosen < length c.args.self.now.outs.now = omega (arith, c.requires, long) in
    all_left (lists_of c.args.self.now.conflicts.now) c.args.self.now.ins.now c.args.self.now.outs.now chosen c.args.marks.now stand.shows next

pub returns : goal.returns
returns c = λ chosen long stand. rw c.unwrap_or.ensures
    (first_left c.args.self.now.conflicts.now c.args.self.now.ins.now c.args.self.now.outs.now chosen c.args.marks.now c.args.number stand.shows long c.requires c.first_free.result c.first_free.ensures)
