-- The columns are those that were read.
use Rattle.std.proofs.Common.{rules}
use Rattle.words.specs.Language.{number_of}
use Rattle.commands.proofs.Columns.{one_at_least}
use Rattle.commands.proofs.parsing.columns.columns_from.Goals as goal

pub returns : goal.returns
returns g c =
    let read = c.in_ok-count.ensures.reads number_of (λ t x h. search rules) in
    let is = one_at_least g.row.N _ _ _ read in
    cc
