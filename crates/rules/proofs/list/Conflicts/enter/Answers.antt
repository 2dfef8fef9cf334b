use Rattle.rules.proofs.Keeping.{entered_rises, enter_says}
use Rattle.rules.proofs.list.Conflicts.enter.Goals as goal

pub invariant_of-self : goal.invariant_of-self
invariant_of-self c = record { rising = entered_rises _ _ _ c.args.self.now.rising _ c.enter.ensures }

pub returns : goal.returns
returns c = enter_says _ _ _ c.args.self.now.rising _ c.enter.ensures
