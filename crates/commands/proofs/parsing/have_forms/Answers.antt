-- `all` asks of each part whether it is a word.
use Rattle.std.proofs.Common.{is_some, ◌∙◌, rules, tests}
use Rattle.std.proofs.lemmas.Iterator.Consumers.{YieldsList-from_first}
use Rattle.std.proofs.lemmas.Iterator.Search.{all_from_yields_List}
use Rattle.words.specs.Language.{word_of}
use Rattle.words.specs.Meaning.{shown, to_come}
use Rattle.commands.proofs.Forms.{is_word, all_forms}
use Rattle.commands.proofs.parsing.have_forms.Goals as goal

pub returns : goal.returns
returns c =
    all_from_yields_List (λ p. is_some (word_of p)) _ _ _ c.all.ensures.ran (YieldsList-from_first shown to_come (to_come c.args.words) cc) (λ x b q k. search (rules, tests, is_word))
    ∙ all_forms (to_come c.args.words)
