-- A verdict goes on with a lawful life: the plain book is asked the same, and its rows and readings are the source's.
use Rattle.std.proofs.Common.{◌≡◌, ℕ, List, length, take, Ok, Err, Option, Result, sym, refl, ap, ◌∙◌}
use Rattle.std.specs.Option.{option_map}
use Rattle.store.specs.Held.{rows_of}
use Rattle.store.specs.Store.{Store}
use Rattle.store.specs.declared.row.Row.{Row}
use Rattle.rules.specs.Listing.{Listed, Lists, is_conflict}
use Rattle.rules.specs.Readings.{reading}
use Rattle.rules.specs.Rules.{Denial, conflicts}
use Rattle.rules.specs.Sets.{Rows}
use Rattle.rules.proofs.ReadBy.{same_readings}
use Rattle.rules.proofs.SameHeld.{same_members}
use Rattle.plan.specs.Plans.{nodes_of}
use Rattle.plan.specs.declared.plan.Plan.{Plan}
use Rattle.verdict.specs.Refusals.{notice_of as verdict_notice}
use Rattle.verdict.specs.Verdicts.{verdict_no, conflicts_of, VerdictSays}
use Rattle.verdict.specs.declared.outcome.Verdict.{Verdict}
use Rattle.verdict.specs.declared.outcome.Verdict.TheVariants.{Sure, Unsure}
use Rattle.verdict.specs.declared.refusal.Refusal.{Refusal as Unjudged}
use Rattle.book.specs.Calls.{JudgingSays, judged_by}
use Rattle.book.specs.Plain.{Plain, judging, judging_no, sure, unsure, refused}
use Rattle.book.specs.Runs.{Agrees, LivesOn}
use Rattle.book.specs.declared.refusal.Refusal.{Refusal}
use Rattle.book.specs.declared.refusal.Refusal.TheVariants.{Source, EntryConflicts, TooManyRules, Rule, RuleConflicts, NoSuchConflict, Unanswered, Verdict as NoVerdict, Sheet as NoSheet}
use Rattle.book.proofs.Answered.{goes_on, stops}
use Rattle.book.proofs.Lives.{on}
use Rattle.book.proofs.Turning.{sure_over, core_over}

-- what the verdict over the listed conflicts says, it says of the conflicts by the rules
module _ (s : Store) (rules : List Denial) (listed : List Listed) (exact : Lists (is_conflict s.places rules) listed) (plan : Plan) (columns : List ℕ) (size : ℕ) (before after : List Row) where
  by_rules : (R : Rows) → reading (rows_of s.places) (conflicts_of s listed) R ≡ reading (rows_of s.places) (conflicts (rows_of s.places) rules) R
  by_rules R = same_readings s.places rules listed exact R

  pub judged_sure : VerdictSays s listed (nodes_of plan) columns size before after (Ok Sure) → JudgingSays s rules (nodes_of plan) columns size before after (Ok Sure)
  judged_sure (granted, is, same) = (granted, sure_over plan columns (rows_of s.places) (rows_of s.places) (conflicts_of s listed) (conflicts (rows_of s.places) rules) (λ r. refl) by_rules is, same)

  pub judged_unsure : (n : ℕ) → VerdictSays s listed (nodes_of plan) columns size before after (Ok (Unsure n)) → JudgingSays s rules (nodes_of plan) columns size before after (Ok (Unsure n))
  judged_unsure n (granted, is, long, rest) =
      (granted, core_over plan columns (rows_of s.places) (rows_of s.places) (conflicts_of s listed) (conflicts (rows_of s.places) rules) (λ r. refl) by_rules (take n after) is, long, rest)

  pub judged : (v : Verdict) → VerdictSays s listed (nodes_of plan) columns size before after (Ok v) → JudgingSays s rules (nodes_of plan) columns size before after (Ok v)
  judged Sure says = judged_sure says
  judged (Unsure n) says = judged_unsure n says

-- the readings of the plain book are those of the source
pub plain_reads : (s : Store) (rules : List Denial) (p : Plain) → Agrees p s rules → (R : Rows) → reading (rows_of s.places) (conflicts (rows_of s.places) rules) R ≡ reading p.rows (conflicts p.rows p.rules) R
plain_reads s rules p both R =
    sym ((same_members p.rows (rows_of s.places) both.rows rules).1 R)
    ∙ ap (λ rs. reading p.rows (conflicts p.rows rs) R) (sym both.taken)

module _ (s : Store) (rules : List Denial) (plan : Plan) (columns : List ℕ) (size : ℕ) (before after : List Row) where
  abbrev number_of : Unjudged → ℕ
  number_of e = (verdict_notice e).number

  abbrev question : Option Unjudged
  question = verdict_no s.arity (nodes_of plan) columns size (length before)

  -- the plain book asks of a verdict what the book asks
  judging_asks : (p : Plain) → Agrees p s rules → judging_no p (nodes_of plan) columns size (length before) ≡ option_map number_of question
  judging_asks p both = ap (λ (arity : ℕ → ℕ). option_map number_of (verdict_no arity (nodes_of plan) columns size (length before))) both.arity

  pub judging_lives : (r : Result Verdict Refusal) → JudgingSays s rules (nodes_of plan) columns size before after r →
      LivesOn s rules s rules (judging (nodes_of plan) columns size (length before)) (judged_by after r)
  judging_lives (Ok Sure) (granted, is, _) h life =
      let p = life.plain in
      let both = life.agrees in
      on h s s rules rules (judging (nodes_of plan) columns size (length before)) sure life p
      (goes_on _ p sure p (judging_no p (nodes_of plan) columns size (length before)) (judging_asks p both ∙ ap (option_map number_of) granted)
      (sure_over plan columns (rows_of s.places) p.rows (conflicts (rows_of s.places) rules) (conflicts p.rows p.rules) (λ r. sym (both.rows r)) (plain_reads s rules p both) is, refl))
      both
  judging_lives (Ok (Unsure n)) (granted, is, _, _) h life =
      let p = life.plain in
      let both = life.agrees in
      on h s s rules rules (judging (nodes_of plan) columns size (length before)) (unsure (take n after)) life p
      (goes_on _ p (unsure (take n after)) p (judging_no p (nodes_of plan) columns size (length before)) (judging_asks p both ∙ ap (option_map number_of) granted)
      (core_over plan columns (rows_of s.places) p.rows (conflicts (rows_of s.places) rules) (conflicts p.rows p.rules) (λ r. sym (both.rows r)) (plain_reads s rules p both) (take n after) is, refl))
      both
  judging_lives (Err (Source e)) no_way h life = absurd no_way
  judging_lives (Err EntryConflicts) no_way h life = absurd no_way
  judging_lives (Err TooManyRules) no_way h life = absurd no_way
  judging_lives (Err (Rule e)) no_way h life = absurd no_way
  judging_lives (Err RuleConflicts) no_way h life = absurd no_way
  judging_lives (Err NoSuchConflict) no_way h life = absurd no_way
  judging_lives (Err (Unanswered e)) no_way h life = absurd no_way
  judging_lives (Err (NoSheet e)) no_way h life = absurd no_way
  judging_lives (Err (NoVerdict e)) (asked, _) h life =
      let p = life.plain in
      on h s s rules rules (judging (nodes_of plan) columns size (length before)) (refused (number_of e)) life p
      (stops _ p (refused (number_of e)) p (judging_no p (nodes_of plan) columns size (length before)) (number_of e) (judging_asks p life.agrees ∙ ap (option_map number_of) asked) refl refl)
      life.agrees
