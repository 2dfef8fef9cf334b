-- Which nodes make a plan: the questions that fill asks, in order.
use Rattle.std.specs.Prelude.{◌≡◌, ℕ, zero, suc, ◌-◌, ◌<◌, Bool, true, false, cond, not, ◌&&◌, ◌||◌, List, [], length, take, Some, None, sum_by, Option, ◌==◌, nat_le, nat_lt, slice_index, slice_index_or}
use Rattle.fault.specs.Questions.{ask}
use Rattle.store.specs.Sides.{all_columns}
use Rattle.store.specs.declared.comparison.Comparison.{Comparison}
use Rattle.plan.specs.Leaves.{fields_of, opens}
use Rattle.plan.specs.Nodes.{grown, blank, late, namings, leaf_count}
use Rattle.plan.specs.Answers.{width_of}
use Rattle.plan.specs.declared.node.Op.{Op}
use Rattle.plan.specs.declared.node.Op.TheVariants.{Product, Union, Difference}
use Rattle.plan.specs.declared.node.Node.{Node}
use Rattle.plan.specs.declared.node.Node.TheVariants.{Leaf, Choice, Pair}
use Rattle.plan.specs.declared.refusal.Refusal.{Refusal}
use Rattle.plan.specs.declared.refusal.Refusal.TheVariants.{Size, Order, Leaves, Widths}

-- the least number below n that passes the test, or n where none does
abbrev pub first : (ℕ → Bool) → ℕ → ℕ
first test zero = 0
first test (suc n) = cond (test 0) 0 (suc (first (λ k. test (suc k)) n))

-- what a search tells: the first number below n that passes the test, or that there is none
abbrev pub Spots : (ℕ → Bool) → ℕ → Option ℕ → Type 0
Spots test n None = first test n ≡ n
Spots test n (Some k) = (first test n ≡ k) × (k < n)

-- the question whether none of the n first positions has the fault; the refusal tells the first that has
abbrev pub ask_each : (ℕ → Bool) → ℕ → (ℕ → Refusal) → Option Refusal → Option Refusal
ask_each fault n refusal rest = ask (first fault n == n) (refusal (first fault n)) rest

-- there are 1 to 16 nodes
abbrev pub right_size : List Node → Bool
right_size nodes = nat_le 1 (length nodes) && nat_le (length nodes) 16

-- the node at k names one that is not earlier
abbrev pub late_at : List Node → ℕ → Bool
late_at nodes k = late k (slice_index_or nodes k blank)

-- every node names earlier ones only
abbrev pub Earlier : List Node → Type 0
Earlier nodes = (k : ℕ) → k < length nodes → late_at nodes k ≡ false

-- the node at k is not named exactly once
abbrev pub stray_at : List Node → ℕ → Bool
stray_at nodes k = not (sum_by (namings k) nodes == 1)

-- a leaf, with so many leaves before it, is the seventh, has no arity from 1 to 4, or has no open column
abbrev pub poor : ℕ → Node → Bool
poor before (Leaf relation arity fields) = nat_le 6 before || (arity == 0 || (nat_lt 4 arity || opens (fields_of arity fields) == 0))
poor before (Choice node comparison) = false
poor before (Pair op left right) = false

-- how many leaves stand before the node at k
abbrev pub leaves_before : List Node → ℕ → ℕ
leaves_before nodes k = sum_by leaf_count (take k nodes)

-- the node at k is a poor leaf
abbrev pub poor_at : List Node → ℕ → Bool
poor_at nodes k = poor (leaves_before nodes k) (slice_index_or nodes k blank)

-- each column of the comparison is below the width
abbrev pub inside : ℕ → Comparison ℕ → Bool
inside width comparison = all_columns (λ column. nat_lt column width) comparison

-- the two sides of a union or a difference have one width
abbrev pub alike : Op → ℕ → ℕ → Bool
alike Product left right = true
alike Union left right = left == right
alike Difference left right = left == right

-- a node's sides fit, by the widths of the nodes before it
abbrev pub sides_fit : List ℕ → Node → Bool
sides_fit done (Leaf relation arity fields) = true
sides_fit done (Choice node comparison) = inside (slice_index done node) comparison
sides_fit done (Pair op left right) = alike op (slice_index done left) (slice_index done right)

-- a node's sides do not fit, or it is wider than 8
abbrev pub unfit : List ℕ → Node → Bool
unfit done node = not (sides_fit done node && nat_le (width_of done node) 8)

-- the node at k itself fails
abbrev pub unfit_at : List Node → ℕ → Bool
unfit_at nodes k = unfit (grown width_of [] nodes) (slice_index_or nodes k blank)

-- fill's questions: are there 1 to 16 nodes, does each name earlier ones only, is each but the last named exactly once,
-- are there at most six leaves and each in order, does each node fit the widths?
abbrev pub fill_refusal : List Node → Option Refusal
fill_refusal nodes =
    ask (right_size nodes) Size
    (ask_each (late_at nodes) (length nodes) Order
    (ask_each (stray_at nodes) (length nodes - 1) Order
    (ask_each (poor_at nodes) (length nodes) Leaves
    (ask_each (unfit_at nodes) (length nodes) Widths None))))
