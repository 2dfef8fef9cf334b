use Rattle.std.proofs.Common.{rules}
use Rattle.plan.specs.Answers.{among}
use Rattle.plan_examples.proofs.answers.is_answer.Goals as goal

pub returns : goal.returns
returns c = let rows = c.args.rows.now in c.holds.ensures.means rows (c.at_leaves.ensures (among rows) (λ row b k. search rules))
