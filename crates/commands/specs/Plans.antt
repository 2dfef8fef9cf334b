-- Plans as a line writes them: a stack of nodes. A leaf is put on top, a choice takes one node from there and is put in its
-- place, a sign takes two; at the end exactly one is left.
use Rattle.std.specs.Prelude.{ℕ, cond, List, [], ◌∷◌, ◌++◌, length, Some, None, codes, Option}
use Rattle.std.specs.Option.{option_map, option_flatten, option_zip}
use Rattle.store.specs.declared.comparison.Comparison.{Comparison}
use Rattle.words.specs.Language.{Form, number, leaf, comparison, sign, slash, form_of, is_slash, spelled, among}
use Rattle.plan.specs.declared.node.Op.{Op}
use Rattle.plan.specs.declared.node.Op.TheVariants.{Product, Union, Difference}
use Rattle.plan.specs.declared.node.Node.{Node}
use Rattle.plan.specs.declared.node.Node.TheVariants.{Choice, Pair}
use Rattle.commands.specs.Numbers.{columns_from}
use Rattle.commands.specs.Leaves.{leaf_of}
use Rattle.commands.specs.Choices.{choice_of}

-- the nodes so far, and by their positions those on the stack, the top first
pub record Stacked : Type 0 where
  pub nodes : List Node
  pub stack : List ℕ

-- no nodes
abbrev pub bare : Stacked
bare = record { nodes = []; stack = [] }

-- a node comes behind the others, on top of the stack
abbrev pub topped : Node → Stacked → Stacked
topped node s = record { nodes = s.nodes ++ (node ∷ []); stack = length s.nodes ∷ s.stack }

-- the nodes with this stack
abbrev pub over : List ℕ → Stacked → Stacked
over stack s = record { nodes = s.nodes; stack = stack }

-- a choice takes the node on top
abbrev pub chosen_by : List ℕ → Comparison ℕ → Stacked → Option Stacked
chosen_by [] c s = None
chosen_by (node ∷ rest) c s = Some (topped (Choice node c) (over rest s))

-- a sign takes the node on top as its right one, and the next as its left one
abbrev pub paired_by : List ℕ → Op → Stacked → Option Stacked
paired_by [] op s = None
paired_by (right ∷ []) op s = None
paired_by (right ∷ left ∷ rest) op s = Some (topped (Pair op left right) (over rest s))

abbrev pub chosen : Stacked → Comparison ℕ → Option Stacked
chosen s c = chosen_by s.stack c s

abbrev pub paired : Stacked → Op → Option Stacked
paired s op = paired_by s.stack op s

-- the operation that a sign stands for
abbrev pub op_of : List ℕ → Option Op
op_of w =
    cond (spelled (among (codes "*") ∷ []) w) (Some Product)
    (cond (spelled (among (codes "+") ∷ []) w) (Some Union)
    (cond (spelled (among (codes "-") ∷ []) w) (Some Difference) None))

-- what a word makes of the stack; a number or a slash has no place in a plan
abbrev pub with_form : Stacked → Form → Option Stacked
with_form s (number w) = None
with_form s (leaf w) = option_map (λ node. topped node s) (leaf_of w)
with_form s (comparison w) = option_flatten (option_map (chosen s) (choice_of w))
with_form s (sign w) = option_flatten (option_map (paired s) (op_of w))
with_form s slash = None

abbrev pub with_word : Stacked → List ℕ → Option Stacked
with_word s w = option_flatten (option_map (with_form s) (form_of w))

-- what words make of the stack, one after the other
abbrev pub with_words : Option Stacked → List (List ℕ) → Option Stacked
with_words None ws = None
with_words (Some s) [] = Some s
with_words (Some s) (w ∷ ws) = with_words (with_word s w) ws

-- the nodes, where exactly one is left on the stack
abbrev pub left_by : List ℕ → List Node → Option (List Node)
left_by [] nodes = None
left_by (k ∷ []) nodes = Some nodes
left_by (k ∷ j ∷ rest) nodes = None

abbrev pub whole : Stacked → Option (List Node)
whole s = left_by s.stack s.nodes

-- the nodes of a plan
abbrev pub plan_from : List (List ℕ) → Option (List Node)
plan_from ws = option_flatten (option_map whole (with_words (Some bare) ws))

-- the words before the first slash
abbrev pub before_slash : List (List ℕ) → List (List ℕ)
before_slash [] = []
before_slash (w ∷ ws) = cond (is_slash w) [] (w ∷ before_slash ws)

-- the words behind the first slash: none where there is no slash
abbrev pub behind_slash : List (List ℕ) → List (List ℕ)
behind_slash [] = []
behind_slash (w ∷ ws) = cond (is_slash w) ws (behind_slash ws)

-- a plan, a slash, and one to eight columns, the rest zero. Without a slash there is no column.
abbrev pub verdict_from : List (List ℕ) → Option (List Node × List ℕ)
verdict_from ws = option_zip (plan_from (before_slash ws)) (columns_from 8 (behind_slash ws))
