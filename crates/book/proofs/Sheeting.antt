-- A sheet goes on with a lawful life: the plain book is asked the same, and its rows and readings are the source's.
use Rattle.std.proofs.Common.{◌≡◌, ℕ, ◌<◌, List, length, take, Some, Ok, Err, Result, sym, refl, ap, ◌∙◌, subst, arith}
use mathlib.Core.List.Memᴰ
use Rattle.std.specs.Option.{option_map}
use Rattle.std.proofs.lemmas.List.{length-take}
use Rattle.ordered.specs.Lists.{items_in}
use Rattle.store.specs.Held.{rows_of}
use Rattle.store.specs.Store.{Store}
use Rattle.rules.specs.Laws.{HasAtoms}
use Rattle.rules.specs.Listing.{Listed, Lists, is_conflict}
use Rattle.rules.specs.Readings.{reading}
use Rattle.rules.specs.Rules.{Denial, denial, conflicts}
use Rattle.rules.specs.Sets.{Rows}
use Rattle.rules.proofs.Extension.{some_reading}
use Rattle.rules.proofs.ReadBy.{same_readings}
use Rattle.plan.specs.Plans.{nodes_of}
use Rattle.plan.specs.declared.line.Line.{Line}
use Rattle.plan.specs.declared.plan.Plan.{Plan}
use Rattle.verdict.specs.Verdicts.{conflicts_of}
use Rattle.sheet.specs.Refusals.{notice_of as sheet_notice}
use Rattle.sheet.specs.Sheets.{Readable, SheetSays, sheet_no}
use Rattle.sheet.specs.declared.refusal.Refusal.{Refusal as Unlisted}
use Rattle.sheet.specs.declared.refusal.Refusal.TheVariants.{Unanswered as Unasked, FewMarks, Full}
use Rattle.book.specs.Books.{rules_of}
use Rattle.book.specs.Calls.{ListingSays, listed_by}
use Rattle.book.specs.Plain.{Plain, listing, listing_no, listed, refused}
use Rattle.book.specs.Runs.{Agrees, LivesOn}
use Rattle.book.specs.declared.log.Log.{Log}
use Rattle.book.specs.declared.refusal.Refusal.{Refusal}
use Rattle.book.specs.declared.refusal.Refusal.TheVariants.{Source, EntryConflicts, TooManyRules, Rule, RuleConflicts, NoSuchConflict, Unanswered, Verdict as NoVerdict, Sheet as NoSheet}
use Rattle.book.proofs.Answered.{goes_on, stops}
use Rattle.book.proofs.Lives.{on}
use Rattle.book.proofs.SureLists.{all_as, many_as, all_over, many_over}
use Rattle.book.proofs.Verdicts.{plain_reads}

-- each rule of a book has an atom
pub have_atoms : (log : Log) → HasAtoms (rules_of log)
have_atoms log rule m = let (r, _, e) = Memᴰ.of_map denial (items_in log.rules) m in subst (λ (d : Denial). 0 < length d.atoms) e r.some

-- what the sheet over the listed conflicts says, it says of the conflicts by the rules
module _ (s : Store) (rules : List Denial) (conflicting : List Listed) (exact : Lists (is_conflict s.places rules) conflicting) (plan : Plan) (size : ℕ) (before after : List Line) where
  by_rules : (R : Rows) → reading (rows_of s.places) (conflicts_of s conflicting) R ≡ reading (rows_of s.places) (conflicts (rows_of s.places) rules) R
  by_rules R = same_readings s.places rules conflicting exact R

  pub readable : HasAtoms rules → Readable s conflicting
  readable each = let (R, ok) = some_reading (rows_of s.places) rules each in (R, by_rules R ∙ ok)

  pub sheet_told : (n : ℕ) → SheetSays s conflicting (nodes_of plan) size before after (Ok n) → ListingSays s rules (nodes_of plan) size before after (Ok n)
  sheet_told n (granted, is) =
      (granted, is.within, all_over plan (rows_of s.places) (rows_of s.places) (conflicts_of s conflicting) (conflicts (rows_of s.places) rules) (λ r. refl) by_rules (take n after) (all_as s conflicting (nodes_of plan) (take n after) is.sheet), is.rest)

  pub sheet_refused : (e : Unlisted) → SheetSays s conflicting (nodes_of plan) size before after (Err e) → ListingSays s rules (nodes_of plan) size before after (Err (NoSheet e))
  sheet_refused (Unasked e) says = says
  sheet_refused FewMarks says = says
  sheet_refused Full (granted, many, blank) =
      (granted, many_over plan (rows_of s.places) (rows_of s.places) (conflicts_of s conflicting) (conflicts (rows_of s.places) rules) (λ r. refl) by_rules (length before) (many_as s conflicting (nodes_of plan) (length before) many), blank)

module _ (s : Store) (rules : List Denial) (plan : Plan) (size : ℕ) (before after : List Line) where
  abbrev number_of : Unlisted → ℕ
  number_of e = (sheet_notice e).number

  listing_asks : (p : Plain) → Agrees p s rules → listing_no p (nodes_of plan) size ≡ option_map number_of (sheet_no s.arity (nodes_of plan) size)
  listing_asks p both = ap (λ (arity : ℕ → ℕ). option_map number_of (sheet_no arity (nodes_of plan) size)) both.arity

  -- a question of before is answered No
  stopped : (e : Unlisted) → sheet_no s.arity (nodes_of plan) size ≡ Some e → LivesOn s rules s rules (listing (nodes_of plan) size (length before)) (refused (number_of e))
  stopped e asked h life =
      let p = life.plain in
      on h s s rules rules (listing (nodes_of plan) size (length before)) (refused (number_of e)) life p
      (stops _ p (refused (number_of e)) p (listing_no p (nodes_of plan) size) (number_of e) (listing_asks p life.agrees ∙ ap (option_map number_of) asked) refl refl)
      life.agrees

  pub listing_lives : (r : Result ℕ Refusal) → ListingSays s rules (nodes_of plan) size before after r →
      LivesOn s rules s rules (listing (nodes_of plan) size (length before)) (listed_by after r)
  listing_lives (Ok n) (granted, few, is, _) h life =
      let p = life.plain in
      let both = life.agrees in
      on h s s rules rules (listing (nodes_of plan) size (length before)) (listed (take n after)) life p
      (goes_on _ p (listed (take n after)) p (listing_no p (nodes_of plan) size) (listing_asks p both ∙ ap (option_map number_of) granted)
      ((omega (arith, length-take n after, few), all_over plan (rows_of s.places) p.rows (conflicts (rows_of s.places) rules) (conflicts p.rows p.rules) (λ r. sym (both.rows r)) (plain_reads s rules p both) (take n after) is), refl))
      both
  listing_lives (Err (Source e)) no_way h life = absurd no_way
  listing_lives (Err EntryConflicts) no_way h life = absurd no_way
  listing_lives (Err TooManyRules) no_way h life = absurd no_way
  listing_lives (Err (Rule e)) no_way h life = absurd no_way
  listing_lives (Err RuleConflicts) no_way h life = absurd no_way
  listing_lives (Err NoSuchConflict) no_way h life = absurd no_way
  listing_lives (Err (Unanswered e)) no_way h life = absurd no_way
  listing_lives (Err (NoVerdict e)) no_way h life = absurd no_way
  listing_lives (Err (NoSheet (Unasked e))) (asked, _) h life = stopped (Unasked e) asked h life
  listing_lives (Err (NoSheet FewMarks)) (asked, _) h life = stopped FewMarks asked h life
  listing_lives (Err (NoSheet Full)) (granted, many, _) h life =
      let p = life.plain in
      let both = life.agrees in
      on h s s rules rules (listing (nodes_of plan) size (length before)) (refused 45) life p
      (goes_on _ p (refused 45) p (listing_no p (nodes_of plan) size) (listing_asks p both ∙ ap (option_map number_of) granted)
      ((refl, many_over plan (rows_of s.places) p.rows (conflicts (rows_of s.places) rules) (conflicts p.rows p.rules) (λ r. sym (both.rows r)) (plain_reads s rules p both) (length before) many), refl))
      both
