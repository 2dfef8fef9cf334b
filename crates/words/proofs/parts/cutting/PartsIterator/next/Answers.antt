-- Each way out of `next` hands out the first of the parts to come.
use Rattle.std.proofs.Common.{rules}
use Rattle.words.specs.Meaning.{to_come}
use Rattle.words.proofs.Steps.{none_left, last_left, more_left, fewer}
use Rattle.words.proofs.parts.cutting.PartsIterator.next.Goals as goal

pub returns-in_err-text-clause-steps : goal.returns-in_err-text-clause-steps
returns-in_err-text-clause-steps c = search (rules, none_left)

pub returns-in_default : goal.returns-in_default
returns-in_default c =
    let last = last_left c.args.self.now c.in_ok-text.text (cc) c.in_default.ensures in
    record { steps = last _ c.take.ensures.after; goes = fewer (last _ c.take.ensures.after) }

pub returns : goal.returns
unfolding to_come
returns c =
    let more = more_left c.args.self.now c.in_ok-text.text c.in-Some.end (cc) c.in-Some.ensures in
    record { steps = more; goes = fewer more }
