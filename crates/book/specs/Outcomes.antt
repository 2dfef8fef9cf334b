-- Calls and their outcomes, in the words of the plain book.
use Rattle.std.specs.Prelude.{◌≡◌, ℕ, List, [], ◌∷◌, ◌++◌, min, take, Ok, Err, Result}
use Rattle.store.specs.Store.{Store}
use Rattle.store.specs.declared.row.Row.{Row}
use Rattle.rules.specs.Rules.{Denial}
use Rattle.plan.specs.Plans.{nodes_of}
use Rattle.plan.specs.declared.line.Line.{Line}
use Rattle.verdict.specs.declared.outcome.Verdict.TheVariants.{Sure, Unsure}
use Rattle.book.specs.Plain.{Asked, entering, striking, ruling, judging, listing, Told, taken, ruled, sure, unsure, listed, refused}
use Rattle.book.specs.Refusals.{notice_of}
use Rattle.book.specs.Runs.{History, opening, more, opened, Life}
use Rattle.book.specs.declared.call.Call.{Call}
use Rattle.book.specs.declared.call.Call.TheVariants.{Enter, Strike, Rule, Verdict, Sheet}
use Rattle.book.specs.declared.call.Done.{Done}
use Rattle.book.specs.declared.call.Done.TheVariants.{Taken, Ruled, Judged, Listed}
use Rattle.book.specs.declared.refusal.Refusal.{Refusal}

-- what a call asks, where the caller lends so many mark bytes, rows and lines: a call has as many of each as it names, or all that there are
abbrev pub asked_by : ℕ → ℕ → ℕ → Call → Asked
asked_by lent_marks lent_rows lent_lines (Enter row) = entering row
asked_by lent_marks lent_rows lent_lines (Strike row) = striking row
asked_by lent_marks lent_rows lent_lines (Rule atoms comparisons) = ruling (record { atoms = atoms.now; comparisons = comparisons.now })
asked_by lent_marks lent_rows lent_lines (Verdict plan line marks core) = judging (nodes_of plan.now) line.columns (min marks lent_marks) (min core lent_rows)
asked_by lent_marks lent_rows lent_lines (Sheet plan marks lines) = listing (nodes_of plan.now) (min marks lent_marks) (min lines lent_lines)

-- what an outcome tells, where the caller's rows and lines are these afterwards: a core by its rows, a sheet by its lines, a refusal by its number
abbrev pub told_of : List Row → List Line → Result Done Refusal → Told
told_of core lines (Ok Taken) = taken
told_of core lines (Ok (Ruled n)) = ruled n
told_of core lines (Ok (Judged Sure)) = sure
told_of core lines (Ok (Judged (Unsure n))) = unsure (take n core)
told_of core lines (Ok (Listed n)) = listed (take n lines)
told_of core lines (Err e) = refused (notice_of e).number

-- the history h, with these calls and what was told of each, is the history after
abbrev pub Ran : History → List Asked → List Told → History → Type 0
Ran h [] [] after = after ≡ h
Ran h [] (told ∷ tolds) after = ⊥
Ran h (asked ∷ askeds) [] after = ⊥
Ran h (asked ∷ askeds) (told ∷ tolds) after = Ran (more h asked told) askeds tolds after

-- Every lawful life so far, with the calls and what was recorded of each, is a lawful life. `told` and `told'` say what the recorder
-- was told before and after.
abbrev pub RunSays : (List Told → Type 0) → (List Told → Type 0) → List Asked → Store → List Denial → Store → List Denial → Type 0
RunSays told told' askeds s rules s' rules' =
    (before : List Told) → told before → (h : History) → Life h s rules →
    (tolds : List Told) × told' (before ++ tolds) × ((after : History) × Ran h askeds tolds after × Life after s' rules')

-- From the opening on, the plain book tells of each call what was recorded, and both hold the same in the end.
abbrev pub SessionSays : (List Told → Type 0) → (List Told → Type 0) → List Asked → Store → Store → List Denial → Type 0
SessionSays told told' askeds s s' rules' =
    (before : List Told) → told before →
    (tolds : List Told) × told' (before ++ tolds) × ((after : History) × Ran (opening (opened s)) askeds tolds after × Life after s' rules')
