-- The default arm's search comes near the limit that it has without an answer.
use Rattle.std.proofs.Common.{rules}
use Rattle.commands.proofs.parsing.comparison.atom_side.Goals as goal

pub returns-in_default : goal.returns-in_default
returns-in_default c = search rules fits 2000
