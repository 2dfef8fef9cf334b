use Rattle.std.proofs.Common.{arith}
use Rattle.ordered.specs.Lists.{items_in}
use Rattle.page_examples.proofs.Noted.{one_more, no_more}
use Rattle.page_examples.proofs.minutes.MinutesRecorder.record.Goals as goal

pub returns-then-len-lt-MOST_OUTCOMES : goal.returns-then-len-lt-MOST_OUTCOMES
returns-then-len-lt-MOST_OUTCOMES c before keeps =
    let items = items_in c.args.self.now.outcomes in
    rw c.push.ensures (one_more items before keeps (omega (arith, c.len.ensures.length)) c.args.core.now c.args.lines.now c.args.outcome.now)

pub returns-else-len-lt-MOST_OUTCOMES : goal.returns-else-len-lt-MOST_OUTCOMES
returns-else-len-lt-MOST_OUTCOMES c before keeps = no_more (items_in c.args.self.now.outcomes) before keeps (omega (arith, c.len.ensures.length)) _
