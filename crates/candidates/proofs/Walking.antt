-- A walk over the candidates, from each to the least after it: it ends, and passes none by.
use Rattle.std.proofs.Common.{◌≡◌, ℕ, suc, ◌-◌, ◌<◌, true, ◌⊎◌, List, map, length, Some, None, Option, sym, inl, inr, arith}
use Rattle.std.proofs.lemmas.Bool.{both_ways}
use Rattle.store.specs.declared.row.Row.{Row}
use Rattle.plan.specs.Answers.{padded}
use Rattle.plan.specs.declared.line.Line.{Line}
use Rattle.plan.specs.declared.node.Node.{Node}
use Rattle.plan.proofs.Members.{line_in}
use Rattle.candidates.specs.Candidates.{candidates_at, is_candidate, before, is_after, Next, NextSays}
use Rattle.candidates.proofs.Before.{compared}
use Rattle.candidates.proofs.Going.{later, later_less}

module _ (nodes : List Node) (rows : List Row) where
  abbrev All : List (List ℕ)
  All = map padded (candidates_at rows nodes (length nodes - 1))

  -- how many steps are left at most, the next line's among them
  abbrev pub steps_left : Option Line → ℕ
  steps_left None = 0
  steps_left (Some line) = suc (later line.columns All)

  pub walk_ends : (line : Line) (next : Option Line) → NextSays nodes rows (Some line) next → steps_left next < steps_left (Some line)
  walk_ends line None says = omega arith
  walk_ends line (Some next) says = omega (arith, later_less line.columns next.columns says.past All (line_in next.columns All says.candidate))

  -- a candidate after the line from which the walk went is the next one, or after it
  pub passes_none : (after : Option Line) (next : Line) → Next nodes rows after next.columns → (columns : List ℕ) → is_candidate nodes rows columns ≡ true → is_after after columns ≡ true → (columns ≡ next.columns) ⊎ (before next.columns columns ≡ true)
  passes_none after next says columns is past = elim (compared next.columns columns) [
    | inl o ↦ inr o
    | inr o ↦ elim o [ inl e ↦ inl (sym e) | inr o ↦ absurd (both_ways (before columns next.columns) (says.least columns is past) o) ]
  ]
