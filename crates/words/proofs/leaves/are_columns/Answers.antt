-- The columns with their places, as `enumerate` gives them.
use Rattle.std.proofs.Common.{ltb, ◌&&◌, ◌∙◌, inl, ap, length, arith, rules, tests}
use Rattle.std.proofs.lemmas.Iterator.Consumers.{YieldsList-from_first, YieldsList-from_enumerate}
use Rattle.std.proofs.lemmas.Iterator.Search.{all_from_yields_List}
use Rattle.words.specs.Language.{is_column, parts_of}
use Rattle.words.specs.Meaning.{shown, to_come}
use Rattle.words.specs.declared.separators.Separator.TheVariants.{Comma}
use Rattle.words.proofs.Columns.{few, all_in_order}
use Rattle.words.proofs.leaves.are_columns.Goals as goal

pub all-requires-clause-can : goal.all-requires-clause-can
all-requires-clause-can c = (tt, tt, inl (omega (arith, few c.args.text.now, ap length c.new.ensures, c.enumerate.ensures.remaining)))

pub returns : goal.returns
returns c =
    all_from_yields_List (λ p. ltb p.0 4 && is_column p.1.text) _ _ _ c.all.ensures.ran (YieldsList-from_enumerate (YieldsList-from_first shown to_come (parts_of Comma c.args.text.now) cc) cc) (λ x b q k. search (rules, tests))
    ∙ all_in_order c.args.text.now
