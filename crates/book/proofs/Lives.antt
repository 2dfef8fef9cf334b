-- Every call goes on with a lawful life.
use Rattle.std.proofs.Common.{◌≡◌, ℕ, true, ltb, List, [], length, Ok, Err, Result, sym, refl, ap, ◌∙◌, subst, inl, inr}
use Rattle.std.specs.Option.{option_map}
use Rattle.fault.specs.Questions.{ask}
use Rattle.store.specs.Places.{OnceIn}
use Rattle.store.specs.Store.{Store}
use Rattle.store.specs.declared.row.Row.{Row}
use Rattle.rules.specs.Refusals.{rule_refusal, notice_of as rule_notice}
use Rattle.rules.specs.Rules.{Denial, AtMost}
use Rattle.rules.specs.declared.refusal.Refusal.{Refusal as RuleRefusal}
use Rattle.book.specs.Plain.{Plain, Asked, Told, entering, striking, ruling, taken, ruled, refused, most, entry_no, strike_no, rule_no, with_row, without_row, with_rule, Steps}
use Rattle.book.specs.Runs.{opened, History, opening, more, Agrees, Life, LivesOn}
use Rattle.book.specs.Calls.{EntrySays, StrikingSays, RuleSays, taken_by, ruled_by}
use Rattle.book.specs.declared.refusal.Refusal.{Refusal}
use Rattle.book.specs.declared.refusal.Refusal.TheVariants.{Source, EntryConflicts, TooManyRules, Rule, RuleConflicts, NoSuchConflict, Unanswered, Verdict as NoVerdict, Sheet as NoSheet}
use Rattle.book.proofs.Answered.{number_of, entry_asks, strike_asks, goes_on, stops}
use Rattle.book.proofs.Held.{agrees_put, few_put, agrees_struck, few_with, few_more, few_ruled, agrees_ruled}

-- the opening starts a life
pub born : (s : Store) → Life (opening (opened s)) s []
born s = record { plain = opened s; leads = refl; agrees = record { arity = refl; rows = λ _. refl; empty = refl; taken = refl } }

-- one step of the plain book carries a life on
pub on : (h : History) (s s' : Store) (rules rules' : List Denial) (asked : Asked) (told : Told) (life : Life h s rules) (q : Plain) → Steps life.plain asked told q → Agrees q s' rules' → Life (more h asked told) s' rules'
on h s s' rules rules' asked told life q step both = record { plain = q; leads = (life.plain, life.leads, step); agrees = both }

-- a refusal leaves both as they are
still : (p : Plain) (s s' : Store) (rules : List Denial) → s' ≡ s → Agrees p s rules → Agrees p s' rules
still p s s' rules e both = subst (λ x. Agrees p x rules) (sym e) both

module _ (s s' : Store) (rules : List Denial) (row : Row) where
  pub entry_lives : (r : Result ℕ Refusal) → EntrySays s s' rules row r → LivesOn s rules s' rules (entering row) (taken_by r)
  entry_lives (Ok place) (put, few) h life =
      let p = life.plain in
      let both = life.agrees in
      on h s s' rules rules (entering row) taken life (with_row p row)
      (goes_on _ p taken (with_row p row) (entry_no p row) (entry_asks p s rules both row ∙ ap (option_map number_of) put.granted) (inl (few_put p s s' rules row place both put few, refl, refl)))
      (agrees_put p s s' rules row place both put)
  entry_lives (Err (Source e)) (same, no_row) h life =
      let p = life.plain in
      on h s s' rules rules (entering row) (refused (number_of e)) life p
      (stops _ p (refused (number_of e)) p (entry_no p row) (number_of e) (entry_asks p s rules life.agrees row ∙ ap (option_map number_of) no_row) refl refl)
      (still p s s' rules same life.agrees)
  entry_lives (Err EntryConflicts) (same, granted, many) h life =
      let p = life.plain in
      on h s s' rules rules (entering row) (refused 15) life p
      (goes_on _ p (refused 15) p (entry_no p row) (entry_asks p s rules life.agrees row ∙ ap (option_map number_of) granted) (inr (λ few. many (few_with p s rules life.agrees row few), refl, refl)))
      (still p s s' rules same life.agrees)
  entry_lives (Err TooManyRules) no_way h life = absurd no_way
  entry_lives (Err (Rule e)) no_way h life = absurd no_way
  entry_lives (Err RuleConflicts) no_way h life = absurd no_way
  entry_lives (Err NoSuchConflict) no_way h life = absurd no_way
  entry_lives (Err (Unanswered e)) no_way h life = absurd no_way
  entry_lives (Err (NoVerdict e)) no_way h life = absurd no_way
  entry_lives (Err (NoSheet e)) no_way h life = absurd no_way

  pub striking_lives : OnceIn s.places → (r : Result ℕ Refusal) → StrikingSays s s' row r → LivesOn s rules s' rules (striking row) (taken_by r)
  striking_lives once (Ok place) struck h life =
      let p = life.plain in
      on h s s' rules rules (striking row) taken life (without_row p row)
      (goes_on _ p taken (without_row p row) (strike_no p row) (strike_asks p s rules life.agrees row ∙ ap (option_map number_of) struck.granted) (refl, refl))
      (agrees_struck p s s' rules row place life.agrees once struck)
  striking_lives once (Err (Source e)) (same, no_row) h life =
      let p = life.plain in
      on h s s' rules rules (striking row) (refused (number_of e)) life p
      (stops _ p (refused (number_of e)) p (strike_no p row) (number_of e) (strike_asks p s rules life.agrees row ∙ ap (option_map number_of) no_row) refl refl)
      (still p s s' rules same life.agrees)
  striking_lives once (Err EntryConflicts) no_way h life = absurd no_way
  striking_lives once (Err TooManyRules) no_way h life = absurd no_way
  striking_lives once (Err (Rule e)) no_way h life = absurd no_way
  striking_lives once (Err RuleConflicts) no_way h life = absurd no_way
  striking_lives once (Err NoSuchConflict) no_way h life = absurd no_way
  striking_lives once (Err (Unanswered e)) no_way h life = absurd no_way
  striking_lives once (Err (NoVerdict e)) no_way h life = absurd no_way
  striking_lives once (Err (NoSheet e)) no_way h life = absurd no_way

module _ (s : Store) (rules after : List Denial) (rule : Denial) where
  abbrev rule_number : RuleRefusal → ℕ
  rule_number e = (rule_notice e).number

  -- the plain book asks of a rule what the book asks
  rule_asks : (p : Plain) → Agrees p s rules → rule_no p rule ≡ ask (ltb (length rules) 16) 21 (option_map rule_number (rule_refusal s.arity rule.atoms rule.comparisons))
  rule_asks p both =
      ap (λ rs. ask (ltb (length rs) 16) 21 (option_map rule_number (rule_refusal p.arity rule.atoms rule.comparisons))) both.taken
      ∙ ap (λ (arity : ℕ → ℕ). ask (ltb (length rules) 16) 21 (option_map rule_number (rule_refusal arity rule.atoms rule.comparisons))) both.arity

  module _ (p : Plain) (both : Agrees p s rules) (room : ltb (length rules) 16 ≡ true) where
    rule_room : rule_no p rule ≡ option_map rule_number (rule_refusal s.arity rule.atoms rule.comparisons)
    rule_room = rule_asks p both ∙ ap (λ b. ask b 21 (option_map rule_number (rule_refusal s.arity rule.atoms rule.comparisons))) room

  pub rule_lives : (r : Result ℕ Refusal) → RuleSays s rules after rule r → LivesOn s rules s after (ruling rule) (ruled_by r)
  rule_lives (Ok n) (is, room, granted, last, few) h life =
      let p = life.plain in
      let both = life.agrees in
      let at_room = ap (λ k. ltb k 16) (sym is) ∙ room in
      let number : ruled n ≡ ruled (length p.rules) = ap ruled (is ∙ ap length (sym both.taken)) in
      on h s s rules after (ruling rule) (ruled n) life (with_rule p rule)
      (goes_on _ p (ruled n) (with_rule p rule) (rule_no p rule) (rule_room p both at_room ∙ ap (option_map rule_number) granted)
      (inl (few_ruled p s rules both rule (subst (AtMost most _) last few), number, refl)))
      (agrees_ruled p s rules both rule after last)
  rule_lives (Err (Source e)) no_way h life = absurd no_way
  rule_lives (Err EntryConflicts) no_way h life = absurd no_way
  rule_lives (Err TooManyRules) (same, full) h life =
      let p = life.plain in
      on h s s rules after (ruling rule) (refused 21) life p
      (stops _ p (refused 21) p (rule_no p rule) 21 (rule_asks p life.agrees ∙ ap (λ b. ask b 21 (option_map rule_number (rule_refusal s.arity rule.atoms rule.comparisons))) full) refl refl)
      (subst (Agrees p s) (sym same) life.agrees)
  rule_lives (Err (Rule e)) (same, room, no-rule) h life =
      let p = life.plain in
      on h s s rules after (ruling rule) (refused (rule_number e)) life p
      (stops _ p (refused (rule_number e)) p (rule_no p rule) (rule_number e) (rule_room p life.agrees room ∙ ap (option_map rule_number) no-rule) refl refl)
      (subst (Agrees p s) (sym same) life.agrees)
  rule_lives (Err RuleConflicts) (same, room, granted, many) h life =
      let p = life.plain in
      on h s s rules after (ruling rule) (refused 25) life p
      (goes_on _ p (refused 25) p (rule_no p rule) (rule_room p life.agrees room ∙ ap (option_map rule_number) granted) (inr (λ few. many (few_more p s rules life.agrees rule few), refl, refl)))
      (subst (Agrees p s) (sym same) life.agrees)
  rule_lives (Err NoSuchConflict) no_way h life = absurd no_way
  rule_lives (Err (Unanswered e)) no_way h life = absurd no_way
  rule_lives (Err (NoVerdict e)) no_way h life = absurd no_way
  rule_lives (Err (NoSheet e)) no_way h life = absurd no_way
