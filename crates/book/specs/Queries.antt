-- What a book tells of its conflicts, and of plain answers.
use Rattle.std.specs.Prelude.{◌≡◌, ℕ, ◌<◌, ◌≤◌, Bool, List, length, Some, Ok, Err, Option, Result}
use Rattle.std.specs.List.{slice_get}
use Rattle.ordered.specs.Lists.{items_in}
use Rattle.store.specs.Store.{Store}
use Rattle.store.specs.declared.row.Row.{Row}
use Rattle.store.specs.Held.{rows_of}
use Rattle.rules.specs.Listing.{Listed, rows_at}
use Rattle.rules.specs.Rules.{Denial, AtMost}
use Rattle.plan.specs.declared.node.Node.{Node}
use Rattle.answers.specs.Plain.{PlainSays}
use Rattle.answers.specs.declared.refusal.Refusal.{Refusal as Unfit}
use Rattle.book.specs.declared.forbidden.Forbidden.{Forbidden}
use Rattle.book.specs.declared.refusal.Refusal.{Refusal}
use Rattle.book.specs.declared.refusal.Refusal.TheVariants.{NoSuchConflict, Unanswered}

-- there are n conflicts: at most n, and not at most fewer
pub record Counts (s : Store) (rules : List Denial) (n : ℕ) : Type 0 where
  pub all : AtMost n (rows_of s.places) rules
  pub different : (m : ℕ) → m < n → AtMost m (rows_of s.places) rules → ⊥

-- what is told is a listed conflict: its rows, in order of place, and its rule
pub record Tells (places : List (Option Row)) (c : Listed) (told : Forbidden) : Type 0 where
  pub rows : items_in told.rows ≡ rows_at places c.places
  pub rule : told.rule ≡ c.rule

-- the conflict with a number below the count is told, and any other number is refused
abbrev pub ConflictSays : List (Option Row) → List Listed → ℕ → Result Forbidden Refusal → Type 0
ConflictSays places listed number (Ok told) = (c : Listed) × (slice_get listed number ≡ Some c) × Tells places c told
ConflictSays places listed number (Err e) = (e ≡ NoSuchConflict) × (length listed ≤ number)

-- whether the line is an answer of the plan over all rows held; or the plan does not fit the source, or the line the plan
abbrev pub PlainTells : Store → List Node → List ℕ → Result Bool Refusal → Type 0
PlainTells s nodes columns (Ok answer) = PlainSays s nodes columns (Ok answer)
PlainTells s nodes columns (Err e) = (unfit : Unfit) × (e ≡ Unanswered unfit) × PlainSays s nodes columns (Err unfit)
