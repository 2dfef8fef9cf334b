-- The theorem about candidates.
use Rattle.std.specs.Prelude.{◌≡◌, ℕ, Bool, true, List, filter}
use Rattle.store.specs.declared.row.Row.{Row}
use Rattle.plan.specs.Answers.{is_answer}
use Rattle.plan.specs.Plans.{nodes_of}
use Rattle.plan.specs.declared.plan.Plan.{Plan}
use Rattle.candidates.specs.Candidates.{is_candidate}

-- every answer over some of the rows is a candidate over all of them
abbrev pub AllCandidates : Type 0
AllCandidates = (plan : Plan) (R : Row → Bool) (rows : List Row) (columns : List ℕ) → is_answer (nodes_of plan) (filter R rows) columns ≡ true → is_candidate (nodes_of plan) rows columns ≡ true
