-- What is read has the part's form.
use Rattle.std.proofs.Common.{Some, None}
use Rattle.words.specs.Meaning.{shown}
use Rattle.commands.proofs.Forms.{its_form}
use Rattle.commands.proofs.postfix.stacking.token_of.Goals as goal

pub returns-in_err-word : goal.returns-in_err-word
returns-in_err-word c = let none = its_form (shown c.args.part) None c.in_err-word.ensures in cc

pub returns : goal.returns
returns c = its_form (shown c.args.part) (Some c.in_ok-word.word) c.in_ok-word.ensures
