-- What the calls of a book promise of its source and its rules.
use Rattle.std.specs.Prelude.{◌≡◌, ℕ, ◌≤◌, true, false, List, [], ◌∷◌, ◌++◌, length, take, drop, replicate, Some, None, Ok, Err, Result, nat_lt, slice_index}
use Rattle.store.specs.Store.{Store, Put, Struck, put_refusal, strike_refusal}
use Rattle.store.specs.declared.row.Row.{Row}
use Rattle.store.specs.Held.{rows_of}
use Rattle.rules.specs.Refusals.{rule_refusal}
use Rattle.rules.specs.Rules.{Denial, conflicts, AtMost}
use Rattle.plan.specs.declared.line.Line.{Line}
use Rattle.plan.specs.declared.node.Node.{Node}
use Rattle.cores.specs.Sure.{Sure as IsSure, Core}
use Rattle.verdict.specs.Verdicts.{verdict_no}
use Rattle.verdict.specs.declared.outcome.Verdict.{Verdict}
use Rattle.verdict.specs.declared.outcome.Verdict.TheVariants.{Sure, Unsure}
use Rattle.sheet.specs.Sheets.{columns_of, sheet_no}
use Rattle.sheet.specs.declared.refusal.Refusal.TheVariants.{Unanswered as Unlisted, FewMarks, Full}
use Rattle.book.specs.Plain.{Asked, entering, striking, ruling, judging, listing, Told, taken, ruled, sure, unsure, listed, refused, most}
use Rattle.book.specs.Refusals.{notice_of}
use Rattle.book.specs.SureLines.{AllSure, TooMany}
use Rattle.book.specs.declared.call.Done.{Done}
use Rattle.book.specs.declared.call.Done.TheVariants.{Taken, Ruled, Judged, Listed}
use Rattle.book.specs.declared.refusal.Refusal.{Refusal}
use Rattle.book.specs.declared.refusal.Refusal.TheVariants.{Source, EntryConflicts, TooManyRules, Rule, RuleConflicts, NoSuchConflict, Unanswered, Verdict as NoVerdict, Sheet as NoSheet}

-- an entry is put, and then there are at most 1,024 conflicts; else nothing changes, and the first question answered No tells why
abbrev pub EntrySays : Store → Store → List Denial → Row → Result ℕ Refusal → Type 0
EntrySays before after rules row (Ok p) = Put before after row p × AtMost most (rows_of after.places) rules
EntrySays before after rules row (Err (Source e)) = (after ≡ before) × (put_refusal before row ≡ Some e)
EntrySays before after rules row (Err EntryConflicts) = (after ≡ before) × (put_refusal before row ≡ None) × (AtMost most (row ∷ rows_of before.places) rules → ⊥)
EntrySays before after rules row (Err TooManyRules) = ⊥
EntrySays before after rules row (Err (Rule e)) = ⊥
EntrySays before after rules row (Err RuleConflicts) = ⊥
EntrySays before after rules row (Err NoSuchConflict) = ⊥
EntrySays before after rules row (Err (Unanswered e)) = ⊥
EntrySays before after rules row (Err (NoVerdict e)) = ⊥
EntrySays before after rules row (Err (NoSheet e)) = ⊥

-- a striking is the source's
abbrev pub StrikingSays : Store → Store → Row → Result ℕ Refusal → Type 0
StrikingSays before after row (Ok p) = Struck before after row p
StrikingSays before after row (Err (Source e)) = (after ≡ before) × (strike_refusal before row ≡ Some e)
StrikingSays before after row (Err EntryConflicts) = ⊥
StrikingSays before after row (Err TooManyRules) = ⊥
StrikingSays before after row (Err (Rule e)) = ⊥
StrikingSays before after row (Err RuleConflicts) = ⊥
StrikingSays before after row (Err NoSuchConflict) = ⊥
StrikingSays before after row (Err (Unanswered e)) = ⊥
StrikingSays before after row (Err (NoVerdict e)) = ⊥
StrikingSays before after row (Err (NoSheet e)) = ⊥

-- a rule is put last and its number is how many came before, and then there are at most 1,024 conflicts; else the rules stay
abbrev pub RuleSays : Store → List Denial → List Denial → Denial → Result ℕ Refusal → Type 0
RuleSays s rules after rule (Ok n) =
    (n ≡ length rules) × (nat_lt n 16 ≡ true) × (rule_refusal s.arity rule.atoms rule.comparisons ≡ None) × (after ≡ rules ++ (rule ∷ [])) × AtMost most (rows_of s.places) after
RuleSays s rules after rule (Err (Source e)) = ⊥
RuleSays s rules after rule (Err EntryConflicts) = ⊥
RuleSays s rules after rule (Err TooManyRules) = (after ≡ rules) × (nat_lt (length rules) 16 ≡ false)
RuleSays s rules after rule (Err (Rule e)) = (after ≡ rules) × (nat_lt (length rules) 16 ≡ true) × (rule_refusal s.arity rule.atoms rule.comparisons ≡ Some e)
RuleSays s rules after rule (Err RuleConflicts) =
    (after ≡ rules) × (nat_lt (length rules) 16 ≡ true) × (rule_refusal s.arity rule.atoms rule.comparisons ≡ None) × (AtMost most (rows_of s.places) (rules ++ (rule ∷ [])) → ⊥)
RuleSays s rules after rule (Err NoSuchConflict) = ⊥
RuleSays s rules after rule (Err (Unanswered e)) = ⊥
RuleSays s rules after rule (Err (NoVerdict e)) = ⊥
RuleSays s rules after rule (Err (NoSheet e)) = ⊥

-- a verdict is about the conflicts by the rules: the line is sure, or the first n of the caller's rows are then a core; else the
-- first question answered No tells why. Nothing else is written to the caller's rows.
abbrev pub JudgingSays : Store → List Denial → List Node → List ℕ → ℕ → List Row → List Row → Result Verdict Refusal → Type 0
JudgingSays s rules nodes columns size before after (Ok Sure) =
    (verdict_no s.arity nodes columns size (length before) ≡ None) × IsSure (rows_of s.places) (conflicts (rows_of s.places) rules) nodes columns × (after ≡ before)
JudgingSays s rules nodes columns size before after (Ok (Unsure n)) =
    (verdict_no s.arity nodes columns size (length before) ≡ None) × Core (rows_of s.places) (conflicts (rows_of s.places) rules) nodes columns (take n after) × (length (take n after) ≡ n) × (drop n after ≡ drop n before)
JudgingSays s rules nodes columns size before after (Err (Source e)) = ⊥
JudgingSays s rules nodes columns size before after (Err EntryConflicts) = ⊥
JudgingSays s rules nodes columns size before after (Err TooManyRules) = ⊥
JudgingSays s rules nodes columns size before after (Err (Rule e)) = ⊥
JudgingSays s rules nodes columns size before after (Err RuleConflicts) = ⊥
JudgingSays s rules nodes columns size before after (Err NoSuchConflict) = ⊥
JudgingSays s rules nodes columns size before after (Err (Unanswered e)) = ⊥
JudgingSays s rules nodes columns size before after (Err (NoVerdict e)) = (verdict_no s.arity nodes columns size (length before) ≡ Some e) × (after ≡ before)
JudgingSays s rules nodes columns size before after (Err (NoSheet e)) = ⊥

-- a sheet is about the conflicts by the rules: all sure lines are in the first n of the caller's; or the first question answered No
-- tells why not, and nothing is written; or there is no room for all of them, and all of the caller's are zero
abbrev pub ListingSays : Store → List Denial → List Node → ℕ → List Line → List Line → Result ℕ Refusal → Type 0
ListingSays s rules nodes size before after (Ok n) =
    (sheet_no s.arity nodes size ≡ None) × (n ≤ length before) × AllSure (rows_of s.places) (conflicts (rows_of s.places) rules) nodes (take n after) × (drop n after ≡ drop n before)
ListingSays s rules nodes size before after (Err (Source e)) = ⊥
ListingSays s rules nodes size before after (Err EntryConflicts) = ⊥
ListingSays s rules nodes size before after (Err TooManyRules) = ⊥
ListingSays s rules nodes size before after (Err (Rule e)) = ⊥
ListingSays s rules nodes size before after (Err RuleConflicts) = ⊥
ListingSays s rules nodes size before after (Err NoSuchConflict) = ⊥
ListingSays s rules nodes size before after (Err (Unanswered e)) = ⊥
ListingSays s rules nodes size before after (Err (NoVerdict e)) = ⊥
ListingSays s rules nodes size before after (Err (NoSheet (Unlisted e))) = (sheet_no s.arity nodes size ≡ Some (Unlisted e)) × (after ≡ before)
ListingSays s rules nodes size before after (Err (NoSheet FewMarks)) = (sheet_no s.arity nodes size ≡ Some FewMarks) × (after ≡ before)
ListingSays s rules nodes size before after (Err (NoSheet Full)) =
    (sheet_no s.arity nodes size ≡ None) × TooMany (rows_of s.places) (conflicts (rows_of s.places) rules) nodes (length before) × (columns_of after ≡ replicate (length before) (replicate 8 0))

-- what is told of an entry or a striking, by its number alone
abbrev pub taken_by : Result ℕ Refusal → Told
taken_by (Ok p) = taken
taken_by (Err e) = refused (notice_of e).number

-- what is told of a rule
abbrev pub ruled_by : Result ℕ Refusal → Told
ruled_by (Ok n) = ruled n
ruled_by (Err e) = refused (notice_of e).number

-- what is told of a verdict, where the caller's rows are these afterwards
abbrev pub judged_by : List Row → Result Verdict Refusal → Told
judged_by core (Ok Sure) = sure
judged_by core (Ok (Unsure n)) = unsure (take n core)
judged_by core (Err e) = refused (notice_of e).number

-- what is told of a sheet, where the caller's lines are these afterwards
abbrev pub listed_by : List Line → Result ℕ Refusal → Told
listed_by lines (Ok n) = listed (take n lines)
listed_by lines (Err e) = refused (notice_of e).number

-- what one step promises of the source, the rules and the caller's rows and lines, whichever call it was
abbrev pub StepSays : Store → List Denial → Store → List Denial → List Row → List Row → List Line → List Line → Asked → Result Done Refusal → Type 0
StepSays s rules s' rules' core core' lines lines' (entering row) (Ok Taken) = ((p : ℕ) × EntrySays s s' rules row (Ok p)) × (rules' ≡ rules)
StepSays s rules s' rules' core core' lines lines' (entering row) (Ok (Ruled n)) = ⊥
StepSays s rules s' rules' core core' lines lines' (entering row) (Ok (Judged v)) = ⊥
StepSays s rules s' rules' core core' lines lines' (entering row) (Ok (Listed n)) = ⊥
StepSays s rules s' rules' core core' lines lines' (entering row) (Err e) = EntrySays s s' rules row (Err e) × (rules' ≡ rules)
StepSays s rules s' rules' core core' lines lines' (striking row) (Ok Taken) = ((p : ℕ) × StrikingSays s s' row (Ok p)) × (rules' ≡ rules)
StepSays s rules s' rules' core core' lines lines' (striking row) (Ok (Ruled n)) = ⊥
StepSays s rules s' rules' core core' lines lines' (striking row) (Ok (Judged v)) = ⊥
StepSays s rules s' rules' core core' lines lines' (striking row) (Ok (Listed n)) = ⊥
StepSays s rules s' rules' core core' lines lines' (striking row) (Err e) = StrikingSays s s' row (Err e) × (rules' ≡ rules)
StepSays s rules s' rules' core core' lines lines' (ruling rule) (Ok Taken) = ⊥
StepSays s rules s' rules' core core' lines lines' (ruling rule) (Ok (Ruled n)) = RuleSays s rules rules' rule (Ok n) × (s' ≡ s)
StepSays s rules s' rules' core core' lines lines' (ruling rule) (Ok (Judged v)) = ⊥
StepSays s rules s' rules' core core' lines lines' (ruling rule) (Ok (Listed n)) = ⊥
StepSays s rules s' rules' core core' lines lines' (ruling rule) (Err e) = RuleSays s rules rules' rule (Err e) × (s' ≡ s)
StepSays s rules s' rules' core core' lines lines' (judging nodes columns marks room) (Ok Taken) = ⊥
StepSays s rules s' rules' core core' lines lines' (judging nodes columns marks room) (Ok (Ruled n)) = ⊥
StepSays s rules s' rules' core core' lines lines' (judging nodes columns marks room) (Ok (Judged v)) =
    JudgingSays s rules nodes columns marks (take room core) (take room core') (Ok v) × (s' ≡ s) × (rules' ≡ rules)
StepSays s rules s' rules' core core' lines lines' (judging nodes columns marks room) (Ok (Listed n)) = ⊥
StepSays s rules s' rules' core core' lines lines' (judging nodes columns marks room) (Err e) =
    JudgingSays s rules nodes columns marks (take room core) (take room core') (Err e) × (s' ≡ s) × (rules' ≡ rules)
StepSays s rules s' rules' core core' lines lines' (listing nodes marks room) (Ok Taken) = ⊥
StepSays s rules s' rules' core core' lines lines' (listing nodes marks room) (Ok (Ruled n)) = ⊥
StepSays s rules s' rules' core core' lines lines' (listing nodes marks room) (Ok (Judged v)) = ⊥
StepSays s rules s' rules' core core' lines lines' (listing nodes marks room) (Ok (Listed n)) =
    ListingSays s rules nodes marks (take room lines) (take room lines') (Ok n) × (s' ≡ s) × (rules' ≡ rules)
StepSays s rules s' rules' core core' lines lines' (listing nodes marks room) (Err e) =
    ListingSays s rules nodes marks (take room lines) (take room lines') (Err e) × (s' ≡ s) × (rules' ≡ rules)

-- how many of the caller's mark bytes, rows and lines a call uses, from the first on
abbrev pub marks_used : Asked → ℕ
marks_used (entering row) = 0
marks_used (striking row) = 0
marks_used (ruling rule) = 0
marks_used (judging nodes columns marks room) = marks
marks_used (listing nodes marks room) = marks

abbrev pub rows_used : Asked → ℕ
rows_used (entering row) = 0
rows_used (striking row) = 0
rows_used (ruling rule) = 0
rows_used (judging nodes columns marks room) = room
rows_used (listing nodes marks room) = 0

abbrev pub lines_used : Asked → ℕ
lines_used (entering row) = 0
lines_used (striking row) = 0
lines_used (ruling rule) = 0
lines_used (judging nodes columns marks room) = 0
lines_used (listing nodes marks room) = room

-- the mark bytes that a call uses are zero afterwards, and the others as they were
abbrev pub marks_after : Asked → List ℕ → List ℕ
marks_after asked marks = replicate (marks_used asked) 0 ++ drop (marks_used asked) marks

-- so each mark byte that was zero is zero
abbrev pub StayZero : List ℕ → List ℕ → Type 0
StayZero before after = (p : ℕ) → slice_index before p ≡ 0 → slice_index after p ≡ 0
