-- The whole text is still to be cut.
use Rattle.std.proofs.Common.{refl}
use Rattle.words.specs.Meaning.{to_come}
use Rattle.words.proofs.parts.Parts.new.Goals as goal

pub returns : goal.returns
unfolding to_come
returns c = refl
