-- What was done and what was refused, once a result is handed on by `map`, or by `map_err` and `?`.
use Rattle.std.proofs.Common.{◌≡◌, ℕ, List, Ok, Err, Result, sym, ap, subst}
use Rattle.std.specs.Prelude.{MatchResult, IsOkAnd, IsErrAnd}
use Rattle.std.specs.Result.{is_ok}
use Rattle.std.proofs.lemmas.Bool.{both_ways}
use Rattle.ordered.specs.declared.entry.Full.{Full as TooFull}
use Rattle.store.specs.Store.{Store}
use Rattle.store.specs.declared.row.Row.{Row}
use Rattle.plan.specs.declared.line.Line.{Line}
use Rattle.rules.specs.Rules.{Denial}
use Rattle.book.specs.Books.{RuledSays}
use Rattle.book.specs.Calls.{ruled_by}
use Rattle.book.specs.Outcomes.{told_of}
use Rattle.book.specs.declared.call.Done.{Done}
use Rattle.book.specs.declared.call.Done.TheVariants.{Ruled}
use Rattle.book.specs.declared.log.Log.{Log}
use Rattle.book.specs.declared.refusal.Refusal.{Refusal}
use Rattle.book.specs.declared.refusal.Refusal.TheVariants.{RuleConflicts}

pub ruled_told : (core : List Row) (lines : List Line) (r : Result ℕ Refusal) (m : Result Done Refusal) (P : ℕ → Done → Type 0) → ((n : ℕ) (d : Done) → P n d → d ≡ Ruled n) → MatchResult r (λ n. IsOkAnd m (P n)) (λ e. m ≡ Err e) → ruled_by r ≡ told_of core lines m
ruled_told core lines (Ok n) (Ok d) P is p = ap (λ (x : Done). told_of core lines (Ok x)) (sym (is n d p))
ruled_told core lines (Ok n) (Err e) P is p = absurd p
ruled_told core lines (Err e) m P is same = ap (told_of core lines) (sym same)

module _ (s : Store) (before after : Log) (rule : Denial) where
  pub rule_taken : (r : Result Unit TooFull) (m : Result Unit Refusal) (x : Unit) → m ≡ Ok x → is_ok m ≡ is_ok r → RuledSays s before after rule r → RuledSays s before after rule (Ok x)
  rule_taken (Ok y) m x was variant says = says
  rule_taken (Err e) m x was variant says = absurd (both_ways (is_ok m) variant (ap is_ok was))

  pub rule_refused : (r : Result Unit TooFull) (m : Result Unit Refusal) (e : Refusal) (P : TooFull → Refusal → Type 0) → m ≡ Err e → is_ok m ≡ is_ok r → MatchResult r (λ x. m ≡ Ok x) (λ f. IsErrAnd m (P f)) → ((f : TooFull) (d : Refusal) → P f d → d ≡ RuleConflicts) → RuledSays s before after rule r → (f : TooFull) × (e ≡ RuleConflicts) × RuledSays s before after rule (Err f)
  rule_refused (Ok y) m e P was variant told is says = absurd (both_ways (is_ok m) (ap is_ok was) variant)
  rule_refused (Err f) m e P was variant told is says = (f, is f e (subst (λ (x : Result Unit Refusal). IsErrAnd x (P f)) was told), says)
