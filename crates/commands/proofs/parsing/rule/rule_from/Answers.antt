-- Each turn reads the next word into the rule.
use Rattle.commands.proofs.Ruling.{atom_more, comparison_more}
use Rattle.commands.proofs.parsing.rule.rule_from.Goals as goal

pub loop-part-preserved-in-Some-atom_in : goal.loop-part-preserved-in-Some-atom_in
loop-part-preserved-in-Some-atom_in c =
    atom_more c.loop-part.invariant c.in-Some.ensures.steps _ _ c.in-Some-atom_in.ensures c.in_ok-relation_of-in-Some-atom_in.ensures c.add_atom.ensures

pub loop-part-preserved : goal.loop-part-preserved
loop-part-preserved c =
    comparison_more c.loop-part.invariant c.in-Some.ensures.steps _ c.in-None-atom_in.ensures c.in_ok-comparison_of-in-None-atom_in.ensures c.add_comparison.ensures
