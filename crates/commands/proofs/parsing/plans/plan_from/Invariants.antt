-- The words so far are read onto the stack.
use Rattle.words.specs.Language.{texts}
use Rattle.words.specs.Meaning.{to_come}
use Rattle.commands.specs.Postfixes.{stacked}
use Rattle.commands.proofs.Planning.{Sofar}
use Rattle.commands.proofs.parsing.plans.plan_from.Given as goal

abbrev pub invariant-loop-part : goal.invariant-loop-part
invariant-loop-part l = Sofar (λ ws. ws) (texts (to_come l.words)) (stacked l.plan) (to_come l.part-iterator)
