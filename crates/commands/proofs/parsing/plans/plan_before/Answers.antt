-- Each turn reads the next word onto the stack.
use Rattle.std.proofs.Common.{ap, sym, ◌∙◌}
use Rattle.words.specs.Language.{texts}
use Rattle.words.specs.Meaning.{to_come}
use Rattle.commands.specs.Plans.{behind_slash}
use Rattle.commands.proofs.Planning.{one_more, no_slash}
use Rattle.commands.proofs.parsing.plans.plan_before.Goals as goal

pub loop-part-preserved : goal.loop-part-preserved
loop-part-preserved c =
    let next = c.in-Some.ensures.steps in
    let word = no_slash c.in-Some.part.text.now (texts (to_come c.next.new.self)) (sym (c.is_slash.ensures) ∙ c.if-is_slash.false) in
    (one_more c.loop-part.invariant.0 next _ word.0 c.in_ok-add.ensures, c.loop-part.invariant.1 ∙ ap (λ ps. behind_slash (texts ps)) next ∙ word.1)
