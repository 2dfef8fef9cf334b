-- Each turn reads the next word onto the stack.
use Rattle.std.proofs.Common.{refl}
use Rattle.commands.proofs.Planning.{one_more}
use Rattle.commands.proofs.parsing.plans.plan_from.Goals as goal

pub loop-part-preserved : goal.loop-part-preserved
loop-part-preserved c = one_more c.loop-part.invariant c.in-Some.ensures.steps _ refl c.in_ok-add.ensures
