-- What a plain answer is.
use Rattle.std.specs.Prelude.{◌≡◌, ℕ, Bool, List, Some, None, Ok, Err, Option, Result}
use Rattle.store.specs.Held.{rows_of}
use Rattle.store.specs.Store.{Store}
use Rattle.plan.specs.Answers.{is_answer, plan_width}
use Rattle.plan.specs.declared.node.Node.{Node}
use Rattle.answers.specs.Asking.{leaves_no, line_no, or_then}
use Rattle.answers.specs.declared.refusal.Refusal.{Refusal}

-- the questions of a plan and a line, in order: has each leaf the arity that the source tells, is the line zero from the width on?
abbrev pub plain_no : (ℕ → ℕ) → List Node → List ℕ → Option Refusal
plain_no arity nodes columns = or_then (leaves_no arity nodes) (line_no (plan_width nodes) columns)

-- whether the line is an answer over all rows held, or the first question that is answered No
abbrev pub PlainSays : Store → List Node → List ℕ → Result Bool Refusal → Type 0
PlainSays s nodes columns (Ok answer) = (plain_no s.arity nodes columns ≡ None) × (answer ≡ is_answer nodes (rows_of s.places) columns)
PlainSays s nodes columns (Err e) = plain_no s.arity nodes columns ≡ Some e
