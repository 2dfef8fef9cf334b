-- What is told of sure lines stays the same when the rows and the conflicts are told otherwise, with the same rows and readings.
use Rattle.std.proofs.Common.{◌≡◌, ℕ, List, sym}
use Rattle.store.specs.Held.{rows_of}
use Rattle.store.specs.Store.{Store}
use Rattle.store.specs.declared.row.Row.{Row}
use Rattle.rules.specs.Listing.{Listed}
use Rattle.rules.specs.Readings.{reading}
use Rattle.rules.specs.Sets.{Rows, among}
use Rattle.plan.specs.Plans.{nodes_of}
use Rattle.plan.specs.declared.line.Line.{Line}
use Rattle.plan.specs.declared.node.Node.{Node}
use Rattle.plan.specs.declared.plan.Plan.{Plan}
use Rattle.verdict.specs.Verdicts.{conflicts_of}
use Rattle.sheet.specs.Sheets.{SomeSure as SomeListed, AllSure as AllListed, TooMany as ManyListed}
use Rattle.book.specs.SureLines.{SomeSure, AllSure, TooMany}
use Rattle.book.proofs.Turning.{sure_over}

-- what the sheet over the listed conflicts says, in these words
module _ (s : Store) (listed : List Listed) (nodes : List Node) where
  some_as : (lines : List Line) → SomeListed s listed nodes lines → SomeSure (rows_of s.places) (conflicts_of s listed) nodes lines
  some_as lines is = record { ascend = is.ascend; sure = is.sure; fit = is.fit }

  pub all_as : (lines : List Line) → AllListed s listed nodes lines → AllSure (rows_of s.places) (conflicts_of s listed) nodes lines
  all_as lines is = record { some = some_as lines is.some; all = is.all }

  pub many_as : (room : ℕ) → ManyListed s listed nodes room → TooMany (rows_of s.places) (conflicts_of s listed) nodes room
  many_as room is = record { lines = is.lines; some = some_as is.lines is.some; more = is.more }

module _ (plan : Plan) (a b : List Row) (C D : List (List Row)) (same : (r : Row) → among a r ≡ among b r) (read : (R : Rows) → reading a C R ≡ reading b D R) where
  some_over : (lines : List Line) → SomeSure a C (nodes_of plan) lines → SomeSure b D (nodes_of plan) lines
  some_over lines is = record { ascend = is.ascend; sure = λ columns h. sure_over plan columns a b C D same read (is.sure columns h); fit = is.fit }

  pub all_over : (lines : List Line) → AllSure a C (nodes_of plan) lines → AllSure b D (nodes_of plan) lines
  all_over lines is = record {
    some = some_over lines is.some;
    all = λ columns sure. is.all columns (sure_over plan columns b a D C (λ r. sym (same r)) (λ R. sym (read R)) sure);
  }

  pub many_over : (room : ℕ) → TooMany a C (nodes_of plan) room → TooMany b D (nodes_of plan) room
  many_over room is = record { lines = is.lines; some = some_over is.lines is.some; more = is.more }
