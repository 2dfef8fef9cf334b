-- The questions that come before any answer: does the plan fit the source, and the line the plan?
use Rattle.std.specs.Prelude.{◌≡◌, ℕ, cond, List, [], ◌∷◌, length, Some, None, Ok, Err, Option, Result, ◌==◌}
use Rattle.plan.specs.Filling.{first}
use Rattle.plan.specs.Gathering.{leaves_of}
use Rattle.plan.specs.Truths.{over}
use Rattle.plan.specs.declared.leaf.PlanLeaf.{PlanLeaf}
use Rattle.plan.specs.declared.node.Node.{Node}
use Rattle.answers.specs.declared.refusal.Refusal.{Refusal}
use Rattle.answers.specs.declared.refusal.Refusal.TheVariants.{Arity, Column}

-- has each of these leaves the arity that is told for its relation? No: the node of the first that has not
abbrev pub leaves_fail : (ℕ → ℕ) → List PlanLeaf → Option Refusal
leaves_fail arity [] = None
leaves_fail arity (leaf ∷ leaves) = cond (leaf.arity == arity leaf.relation) (leaves_fail arity leaves) (Some (Arity leaf.node))

-- the same of a plan, whose leaves are gone through in the order of its nodes
abbrev pub leaves_no : (ℕ → ℕ) → List Node → Option Refusal
leaves_no arity nodes = leaves_fail arity (leaves_of nodes)

-- are the columns from the width on zero? No: the first that is not
abbrev pub line_no : ℕ → List ℕ → Option Refusal
line_no width columns = cond (first (over width columns) (length columns) == length columns) None (Some (Column (first (over width columns) (length columns))))

-- the first of two refusals, in order
abbrev pub or_then : Option Refusal → Option Refusal → Option Refusal
or_then (Some e) next = Some e
or_then None next = next

-- what is told is the refusal, or that there is none
abbrev pub Unless : Option Refusal → Result (Unit {0}) Refusal → Type 0
Unless refusal (Ok _) = refusal ≡ None
Unless refusal (Err e) = refusal ≡ Some e
