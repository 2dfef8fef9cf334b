-- The words so far are read into the rule.
use Rattle.words.specs.Language.{texts}
use Rattle.words.specs.Meaning.{to_come}
use Rattle.commands.specs.Rules.{written}
use Rattle.commands.proofs.Ruling.{Sofar}
use Rattle.commands.proofs.parsing.rule.rule_from.Given as goal

abbrev pub invariant-loop-part : goal.invariant-loop-part
invariant-loop-part l = Sofar (texts (to_come l.words)) (written l.rule) (to_come l.part-iterator)
