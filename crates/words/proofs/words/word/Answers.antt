-- A word is its part's form at its part's place.
use Rattle.std.proofs.Common.{rules}
use Rattle.words.specs.Language.{word_of}
use Rattle.words.proofs.words.word.Goals as goal

pub returns : goal.returns
unfolding word_of
returns c = search rules
