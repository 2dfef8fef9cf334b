-- The first column and those so far are written.
use Rattle.std.proofs.Common.{◌∷◌, get_or, take}
use Rattle.std.specs.Fmt.{HasWritten, IsPlainFormatter}
use Rattle.script.specs.Listing.{columns_words}
use Rattle.script.proofs.listing.ColumnsDisplay.fmt.Given as goal

abbrev pub invariant-loop-column : goal.invariant-loop-column
invariant-loop-column g l =
    IsPlainFormatter l.fn.f → HasWritten g.W.Write.write_str_gives l.fn.f (columns_words (get_or l.self.columns.now 0 0 ∷ take l.column-index l.others)) l.f
