-- The words so far are read onto the stack, and none was the slash.
use Rattle.std.proofs.Common.{◌≡◌}
use Rattle.words.specs.Language.{texts}
use Rattle.words.specs.Meaning.{to_come}
use Rattle.commands.specs.Plans.{before_slash, behind_slash}
use Rattle.commands.specs.Postfixes.{stacked}
use Rattle.commands.proofs.Planning.{Sofar}
use Rattle.commands.proofs.parsing.plans.plan_before.Given as goal

abbrev pub invariant-loop-part : goal.invariant-loop-part
invariant-loop-part l =
    Sofar before_slash (texts (to_come l.initial.words)) (stacked l.plan) (to_come l.words)
    × (behind_slash (texts (to_come l.initial.words)) ≡ behind_slash (texts (to_come l.words)))
