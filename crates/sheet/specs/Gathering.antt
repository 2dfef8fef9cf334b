-- How far the lines of a sheet are gathered.
use Rattle.std.specs.Prelude.{◌≡◌, ℕ, ◌≤◌, true, false, List, length, take, drop, Some, MatchResult, Option, Result}
use Rattle.ordered.specs.declared.entry.Full.{Full as TooFull}
use Rattle.store.specs.Held.{rows_of}
use Rattle.store.specs.Store.{Store}
use Rattle.rules.specs.Listing.{Listed}
use Rattle.plan.specs.Answers.{has}
use Rattle.plan.specs.declared.line.Line.{Line}
use Rattle.plan.specs.declared.node.Node.{Node}
use Rattle.candidates.specs.Candidates.{is_after, is_candidate, Next}
use Rattle.sheet.specs.Sheets.{columns_of, Sure, SomeSure, TooMany, SheetOf}

module _ (s : Store) (listed : List Listed) (nodes : List Node) where
  -- of the candidates up to a line, the sure ones are here
  pub record Gathered (upto : Option Line) (lines : List Line) : Type 0 where
    pub some : SomeSure s listed nodes lines
    pub all : (columns : List ℕ) → is_candidate nodes (rows_of s.places) columns ≡ true → is_after upto columns ≡ false → Sure s listed nodes columns → has (columns_of lines) columns ≡ true

  module _ (before after : List Line) where
    -- what is gathered is now in the first n of the lines, which are no fewer than `count`, and from there on they are as they were
    pub record Grown (upto : Option Line) (count n : ℕ) : Type 0 where
      pub more : count ≤ n
      pub within : n ≤ length before
      pub gathered : Gathered upto (take n after)
      pub rest : drop n after ≡ drop n before

    -- a line is looked at: where it is the next candidate after those whose sure ones are the first `count`, it is gathered too, or
    -- is one too many
    abbrev pub LookSays : Line → ℕ → Result ℕ TooFull → Type 0
    LookSays line count result = (upto : Option Line) → Gathered upto (take count before) → Next nodes (rows_of s.places) upto line.columns →
        MatchResult result (Grown (Some line) count) (λ _. TooMany s listed nodes (length before))

    -- all candidates are looked at
    abbrev pub GatherSays : Result ℕ TooFull → Type 0
    GatherSays result = MatchResult result (SheetOf s listed nodes before after) (λ _. TooMany s listed nodes (length before))
