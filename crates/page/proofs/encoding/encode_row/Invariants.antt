use Rattle.std.proofs.Common.{◌≡◌, ◌<◌, take}
use Rattle.page.specs.Records.{Proper}
use Rattle.page.proofs.Spelling.{so_far}
use Rattle.page.proofs.encoding.encode_row.Given as goal

-- what the columns fit is known once one of them was looked at
abbrev pub invariant-loop-column : goal.invariant-loop-column
invariant-loop-column l = record { proper : 0 < l.column → Proper l.row; spelled : l.record ≡ so_far (take 4 l.initial.record) l.row.columns l.column }
