-- The candidates of a plan over rows, and what the least of them after a line is. Every answer over some of the rows is a candidate over
-- all of them (specs/Laws.antt).
use Rattle.std.specs.Prelude.{◌≡◌, ℕ, ◌-◌, Bool, true, false, List, [], map, length, Some, None, filter, Option, slice_index_or}
use Rattle.std.specs.Ordering.{is_lt}
use Rattle.ordered.specs.Columnwise.{columnwise}
use Rattle.store.specs.declared.row.Row.{Row}
use Rattle.plan.specs.Answers.{has, chosen, lines_by, padded, plan_width}
use Rattle.plan.specs.Leaves.{fields_of, leaf_lines}
use Rattle.plan.specs.Nodes.{grown}
use Rattle.plan.specs.Truths.{line_fits}
use Rattle.plan.specs.declared.line.Line.{Line}
use Rattle.plan.specs.declared.node.Op.{Op}
use Rattle.plan.specs.declared.node.Op.TheVariants.{Product, Union, Difference}
use Rattle.plan.specs.declared.node.Node.{Node}
use Rattle.plan.specs.declared.node.Node.TheVariants.{Leaf, Choice, Pair}

-- a pair's candidates: its lines, but that a difference takes nothing away
abbrev pub candidates_by : Op → List (List ℕ) → List (List ℕ) → List (List ℕ)
candidates_by Product lefts rights = lines_by Product lefts rights
candidates_by Union lefts rights = lines_by Union lefts rights
candidates_by Difference lefts rights = lefts

-- the candidates of a node over rows, from those of the nodes before it
abbrev pub candidates_of : List Row → List (List (List ℕ)) → Node → List (List ℕ)
candidates_of rows done (Leaf relation arity fields) = leaf_lines relation (fields_of arity fields) rows
candidates_of rows done (Choice node comparison) = filter (chosen comparison) (slice_index_or done node [])
candidates_of rows done (Pair op left right) = candidates_by op (slice_index_or done left []) (slice_index_or done right [])

-- the candidates of the node at k
abbrev pub candidates_at : List Row → List Node → ℕ → List (List ℕ)
candidates_at rows nodes k = slice_index_or (grown (candidates_of rows) [] nodes) k []

-- these eight columns are a candidate of the plan: one of its last node
abbrev pub is_candidate : List Node → List Row → List ℕ → Bool
is_candidate nodes rows columns = has (map padded (candidates_at rows nodes (length nodes - 1))) columns

-- the first column that differs is less, as in an ordered list of lines
abbrev pub before : List ℕ → List ℕ → Bool
before a b = is_lt (columnwise a b)

-- columns past a line, or past nothing
abbrev pub is_after : Option Line → List ℕ → Bool
is_after None columns = true
is_after (Some line) columns = before line.columns columns

module _ (nodes : List Node) (rows : List Row) (after : Option Line) where
  -- these columns are the least candidate after a line
  pub record Next (columns : List ℕ) : Type 0 where
    -- they are a candidate, and past the line
    pub candidate : is_candidate nodes rows columns ≡ true
    pub past : is_after after columns ≡ true
    -- no candidate that is past the line comes before them
    pub least : (other : List ℕ) → is_candidate nodes rows other ≡ true → is_after after other ≡ true → before other columns ≡ false
    -- there are eight, with zeros from the plan's width on
    pub fits : line_fits (plan_width nodes) columns ≡ true

-- what is told: the least candidate after a line, or that no candidate is past it
abbrev pub NextSays : List Node → List Row → Option Line → Option Line → Type 0
NextSays nodes rows after (Some line) = Next nodes rows after line.columns
NextSays nodes rows after None = (columns : List ℕ) → is_candidate nodes rows columns ≡ true → is_after after columns ≡ false
