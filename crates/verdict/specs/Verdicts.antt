-- What a verdict says.
use Rattle.std.specs.Prelude.{◌≡◌, ℕ, ◌≤◌, List, map, length, take, drop, filter, Some, None, Ok, Err, Option, Result, nat_le}
use Rattle.std.specs.List.{range_with_len}
use Rattle.fault.specs.Questions.{ask}
use Rattle.store.specs.Held.{rows_of}
use Rattle.store.specs.Store.{Store}
use Rattle.store.specs.declared.row.Row.{Row}
use Rattle.rules.specs.Listing.{Listed, rows_at}
use Rattle.plan.specs.declared.node.Node.{Node}
use Rattle.answers.specs.Plain.{plain_no}
use Rattle.answers.specs.declared.refusal.Refusal.{Refusal as Unasked}
use Rattle.cores.specs.Sure.{Sure as IsSure, Core}
use Rattle.verdict.specs.Marking.{is_in}
use Rattle.verdict.specs.declared.outcome.Verdict.{Verdict}
use Rattle.verdict.specs.declared.outcome.Verdict.TheVariants.{Sure, Unsure}
use Rattle.verdict.specs.declared.refusal.Refusal.{Refusal}
use Rattle.verdict.specs.declared.refusal.Refusal.TheVariants.{Unanswered, FewMarks, FewRows}

-- the first of so many places whose rows are marked as in, in order
abbrev pub marked_of : List ℕ → ℕ → List ℕ
marked_of marks n = filter (is_in marks) (range_with_len 0 n)

-- a refusal of the plan or the line comes before all others
abbrev pub unless_asked : Option Unasked → Option Refusal → Option Refusal
unless_asked (Some refusal) rest = Some (Unanswered refusal)
unless_asked None rest = rest

-- the questions, in order: do the plan and the line fit, are there 256 mark bytes, is there room for twelve rows?
abbrev pub verdict_no : (ℕ → ℕ) → List Node → List ℕ → ℕ → ℕ → Option Refusal
verdict_no arity nodes columns size room = unless_asked (plain_no arity nodes columns) (ask (nat_le 256 size) FewMarks (ask (nat_le 12 room) FewRows None))

-- the rows of each listed conflict
abbrev pub conflicts_of : Store → List Listed → List (List Row)
conflicts_of s listed = map (λ c. rows_at s.places c.places) listed

-- the rows that are marked as in are a core of the line
pub record CoreMarked (s : Store) (listed : List Listed) (nodes : List Node) (columns marks : List ℕ) : Type 0 where
  pub few : length (marked_of marks (length s.places)) ≤ 12
  pub core : Core (rows_of s.places) (conflicts_of s listed) nodes columns (rows_at s.places (marked_of marks (length s.places)))

-- the line is sure; or it is not, since the first n rows that are then in the caller's memory are a core; or the first
-- question that is answered No. Nothing else is written to the caller's memory.
abbrev pub VerdictSays : Store → List Listed → List Node → List ℕ → ℕ → List Row → List Row → Result Verdict Refusal → Type 0
VerdictSays s listed nodes columns size before after (Ok Sure) =
    (verdict_no s.arity nodes columns size (length before) ≡ None) × IsSure (rows_of s.places) (conflicts_of s listed) nodes columns × (after ≡ before)
VerdictSays s listed nodes columns size before after (Ok (Unsure n)) =
    (verdict_no s.arity nodes columns size (length before) ≡ None) × Core (rows_of s.places) (conflicts_of s listed) nodes columns (take n after) × (length (take n after) ≡ n) × (drop n after ≡ drop n before)
VerdictSays s listed nodes columns size before after (Err refusal) =
    (verdict_no s.arity nodes columns size (length before) ≡ Some refusal) × (after ≡ before)
