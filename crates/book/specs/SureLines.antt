-- The lines that every reading has, over rows and their conflicts.
use Rattle.std.specs.Prelude.{◌≡◌, ℕ, ◌<◌, true, List, length}
use Rattle.ordered.specs.Order.{rises}
use Rattle.store.specs.declared.row.Row.{Row}
use Rattle.plan.specs.Answers.{has, plan_width}
use Rattle.plan.specs.Truths.{line_fits}
use Rattle.plan.specs.declared.line.Line.{Line}
use Rattle.plan.specs.declared.node.Node.{Node}
use Rattle.cores.specs.Sure.{Sure}
use Rattle.sheet.specs.Sheets.{columns_of, by_columns}

module _ (rows : List Row) (conflicts : List (List Row)) (nodes : List Node) where
  -- lines that are sure, each before all later ones, so that none is there twice
  pub record SomeSure (lines : List Line) : Type 0 where
    pub ascend : rises by_columns lines ≡ true
    pub sure : (columns : List ℕ) → has (columns_of lines) columns ≡ true → Sure rows conflicts nodes columns
    -- each has eight columns, with zeros from the plan's width on
    pub fit : (columns : List ℕ) → has (columns_of lines) columns ≡ true → line_fits (plan_width nodes) columns ≡ true

  -- and there is no sure line but these
  pub record AllSure (lines : List Line) : Type 0 where
    pub some : SomeSure lines
    pub all : (columns : List ℕ) → Sure rows conflicts nodes columns → has (columns_of lines) columns ≡ true

  -- there are more sure lines than there is room for
  pub record TooMany (room : ℕ) : Type 0 where
    pub lines : List Line
    pub some : SomeSure lines
    pub more : room < length lines
