-- What a sheet says: all sure lines of a plan.
use Rattle.std.specs.Prelude.{◌≡◌, ℕ, ◌<◌, ◌≤◌, true, List, map, length, take, drop, replicate, Some, None, Ok, Err, Option, Result, nat_le}
use Rattle.std.specs.declared.cmp.Ordering.{Ordering}
use Rattle.fault.specs.Questions.{ask}
use Rattle.ordered.specs.Columnwise.{columnwise}
use Rattle.ordered.specs.Order.{rises}
use Rattle.store.specs.Held.{rows_of}
use Rattle.store.specs.Store.{Store}
use Rattle.rules.specs.Listing.{Listed}
use Rattle.rules.specs.Readings.{reading}
use Rattle.rules.specs.Sets.{Rows}
use Rattle.plan.specs.Answers.{has, plan_width}
use Rattle.plan.specs.Truths.{line_fits}
use Rattle.plan.specs.declared.line.Line.{Line}
use Rattle.plan.specs.declared.node.Node.{Node}
use Rattle.answers.specs.Asking.{leaves_no}
use Rattle.answers.specs.declared.refusal.Refusal.{Refusal as Unasked}
use Rattle.cores.specs.Sure.{Sure as IsSure}
use Rattle.verdict.specs.Verdicts.{conflicts_of}
use Rattle.sheet.specs.declared.refusal.Refusal.{Refusal}
use Rattle.sheet.specs.declared.refusal.Refusal.TheVariants.{Unanswered, FewMarks, Full}

-- a refusal of the plan comes before all others
abbrev pub unless_asked : Option Unasked → Option Refusal → Option Refusal
unless_asked (Some refusal) rest = Some (Unanswered refusal)
unless_asked None rest = rest

-- the questions, in order: has each leaf the arity that the source tells, are there 256 mark bytes?
abbrev pub sheet_no : (ℕ → ℕ) → List Node → ℕ → Option Refusal
sheet_no arity nodes size = unless_asked (leaves_no arity nodes) (ask (nat_le 256 size) FewMarks None)

-- the columns of each line
abbrev pub columns_of : List Line → List (List ℕ)
columns_of lines = map (λ line. line.columns) lines

-- the first column that differs says which of two lines comes first
abbrev pub by_columns : Line → Line → Ordering
by_columns a b = columnwise a.columns b.columns

module _ (s : Store) (listed : List Listed) where
  -- there is a reading of the rows
  abbrev pub Readable : Type 0
  Readable = (R : Rows) × (reading (rows_of s.places) (conflicts_of s listed) R ≡ true)

  module _ (nodes : List Node) where
    -- every reading has these columns as an answer
    abbrev pub Sure : List ℕ → Type 0
    Sure columns = IsSure (rows_of s.places) (conflicts_of s listed) nodes columns

    -- lines that are sure, each before all later ones, so that none is there twice
    pub record SomeSure (lines : List Line) : Type 0 where
      pub ascend : rises by_columns lines ≡ true
      pub sure : (columns : List ℕ) → has (columns_of lines) columns ≡ true → Sure columns
      -- each has eight columns, with zeros from the plan's width on
      pub fit : (columns : List ℕ) → has (columns_of lines) columns ≡ true → line_fits (plan_width nodes) columns ≡ true

    -- and there is no sure line but these
    pub record AllSure (lines : List Line) : Type 0 where
      pub some : SomeSure lines
      pub all : (columns : List ℕ) → Sure columns → has (columns_of lines) columns ≡ true

    -- there are more sure lines than there is room for
    pub record TooMany (room : ℕ) : Type 0 where
      pub lines : List Line
      pub some : SomeSure lines
      pub more : room < length lines

-- all sure lines are now in the first n of the lines, and the others are as they were
pub record SheetOf (s : Store) (listed : List Listed) (nodes : List Node) (before after : List Line) (n : ℕ) : Type 0 where
  pub within : n ≤ length before
  pub sheet : AllSure s listed nodes (take n after)
  pub rest : drop n after ≡ drop n before

-- the sheet is in the first n of the caller's lines; or the first question that is answered No, and nothing is written; or more lines
-- are sure than the caller has room for, and then all of the caller's are zero
abbrev pub SheetSays : Store → List Listed → List Node → ℕ → List Line → List Line → Result ℕ Refusal → Type 0
SheetSays s listed nodes size before after (Ok n) =
    (sheet_no s.arity nodes size ≡ None) × SheetOf s listed nodes before after n
SheetSays s listed nodes size before after (Err (Unanswered refusal)) =
    (sheet_no s.arity nodes size ≡ Some (Unanswered refusal)) × (after ≡ before)
SheetSays s listed nodes size before after (Err FewMarks) =
    (sheet_no s.arity nodes size ≡ Some FewMarks) × (after ≡ before)
SheetSays s listed nodes size before after (Err Full) =
    (sheet_no s.arity nodes size ≡ None) × TooMany s listed nodes (length before) × (columns_of after ≡ replicate (length before) (replicate 8 0))
