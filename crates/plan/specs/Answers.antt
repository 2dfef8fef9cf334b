-- What a plan answers: over a list of rows, each node has a width and a list of lines as wide as that.
use Rattle.std.specs.Prelude.{ℕ, ◌+◌, ◌-◌, Bool, not, List, [], ◌++◌, map, length, replicate, filter, slice_index, slice_index_or}
use Rattle.std.specs.List.{flat_map}
use Rattle.store.specs.Lists.{any, same_numbers}
use Rattle.store.specs.Rows.{same_row}
use Rattle.store.specs.Sides.{holds_by}
use Rattle.store.specs.declared.comparison.Comparison.{Comparison}
use Rattle.store.specs.declared.row.Row.{Row}
use Rattle.plan.specs.Leaves.{fields_of, opens, leaf_lines}
use Rattle.plan.specs.Nodes.{grown}
use Rattle.plan.specs.declared.node.Op.{Op}
use Rattle.plan.specs.declared.node.Op.TheVariants.{Product, Union, Difference}
use Rattle.plan.specs.declared.node.Node.{Node}
use Rattle.plan.specs.declared.node.Node.TheVariants.{Leaf, Choice, Pair}

-- the line is one of these
abbrev pub has : List (List ℕ) → List ℕ → Bool
has lines line = any (same_numbers line) lines

-- the row is one of these
abbrev pub among : List Row → Row → Bool
among rows row = any (same_row row) rows

-- the comparison holds for the line, whose columns it names by their numbers
abbrev pub chosen : Comparison ℕ → List ℕ → Bool
chosen comparison line = holds_by (slice_index line) comparison

-- how wide a pair is, from the widths of its nodes
abbrev pub width_by : Op → ℕ → ℕ → ℕ
width_by Product left right = left + right
width_by Union left right = left
width_by Difference left right = left

-- a pair's lines: each left line followed by each right line, the lines of either side, or the left lines that are not on the right
abbrev pub lines_by : Op → List (List ℕ) → List (List ℕ) → List (List ℕ)
lines_by Product lefts rights = flat_map (λ first. map (λ next. first ++ next) rights) lefts
lines_by Union lefts rights = lefts ++ rights
lines_by Difference lefts rights = filter (λ line. not (has rights line)) lefts

-- the width of a node, from the widths of the nodes before it
abbrev pub width_of : List ℕ → Node → ℕ
width_of done (Leaf relation arity fields) = opens (fields_of arity fields)
width_of done (Choice node comparison) = slice_index done node
width_of done (Pair op left right) = width_by op (slice_index done left) (slice_index done right)

-- the lines of a node over rows, from the lines of the nodes before it
abbrev pub lines_of : List Row → List (List (List ℕ)) → Node → List (List ℕ)
lines_of rows done (Leaf relation arity fields) = leaf_lines relation (fields_of arity fields) rows
lines_of rows done (Choice node comparison) = filter (chosen comparison) (slice_index_or done node [])
lines_of rows done (Pair op left right) = lines_by op (slice_index_or done left []) (slice_index_or done right [])

-- the width of the node at k
abbrev pub width_at : List Node → ℕ → ℕ
width_at nodes k = slice_index (grown width_of [] nodes) k

-- the lines of the node at k over rows
abbrev pub lines_at : List Row → List Node → ℕ → List (List ℕ)
lines_at rows nodes k = slice_index_or (grown (lines_of rows) [] nodes) k []

-- the width of a plan: that of its last node
abbrev pub plan_width : List Node → ℕ
plan_width nodes = width_at nodes (length nodes - 1)

-- a line as eight columns: its numbers, and then zeros
abbrev pub padded : List ℕ → List ℕ
padded line = line ++ replicate (8 - length line) 0

-- these eight columns are an answer of the plan over the rows: a line of its last node
abbrev pub is_answer : List Node → List Row → List ℕ → Bool
is_answer nodes rows columns = has (map padded (lines_at rows nodes (length nodes - 1))) columns
