-- A verdict that has the front of the rows that are lent, or a sheet that has that of the lines, as one step of the book.
use Rattle.std.proofs.Common.{◌≡◌, ℕ, List, ◌++◌, length, take, drop, Ok, Err, Result, sym, refl, ap, ◌∙◌, subst, arith}
use Rattle.std.specs.Prelude.{MatchResult, IsOkAnd}
use Rattle.std.proofs.Math.Seq.{take-append_seam}
use Rattle.std.proofs.lemmas.List.{length-take, take-append-le}
use Rattle.store.specs.Store.{Store}
use Rattle.store.specs.declared.row.Row.{Row}
use Rattle.rules.specs.Rules.{Denial}
use Rattle.plan.specs.declared.line.Line.{Line}
use Rattle.plan.specs.declared.node.Node.{Node}
use Rattle.verdict.specs.declared.outcome.Verdict.{Verdict}
use Rattle.verdict.specs.declared.outcome.Verdict.TheVariants.{Sure, Unsure}
use Rattle.book.specs.Calls.{JudgingSays, ListingSays, StepSays, judged_by, listed_by}
use Rattle.book.specs.Outcomes.{told_of}
use Rattle.book.specs.Plain.{judging, listing, unsure, listed}
use Rattle.book.specs.declared.call.Done.{Done}
use Rattle.book.specs.declared.call.Done.TheVariants.{Judged, Listed}
use Rattle.book.specs.declared.refusal.Refusal.{Refusal}

judged_as : (core : List Row) (lines : List Line) (v : Verdict) → judged_by core (Ok v) ≡ told_of core lines (Ok (Judged v))
judged_as core lines Sure = refl
judged_as core lines (Unsure n) = refl

module _ (s : Store) (rules : List Denial) (nodes : List Node) (columns : List ℕ) (m n : ℕ) (core written : List Row) (lines : List Line) (long : length written ≡ n) where
  -- the rows afterwards: what the verdict left of its front, and the rest
  abbrev after : List Row
  after = written ++ drop n core

  front : take n after ≡ written
  front = ap (λ k. take k after) (sym long) ∙ take-append_seam written (drop n core)

  -- what is told of the front is told of all
  told_whole : (r : Result Verdict Refusal) → JudgingSays s rules nodes columns m (take n core) written r → judged_by written r ≡ judged_by after r
  told_whole (Ok Sure) says = refl
  told_whole (Ok (Unsure k)) (_, _, whole, _) = ap unsure (sym (take-append-le k written (drop n core) (omega (arith, length-take k written, whole))))
  told_whole (Err e) says = refl

  module _ (r : Result Verdict Refusal) (says : JudgingSays s rules nodes columns m (take n core) written r) where
    says_front : JudgingSays s rules nodes columns m (take n core) (take n after) r
    says_front = subst (λ (rows : List Row). JudgingSays s rules nodes columns m (take n core) rows r) (sym front) says

  -- and so once the result is handed on by `map`
  pub judged_told : (r : Result Verdict Refusal) (d : Result Done Refusal) (P : Verdict → Done → Type 0) → ((v : Verdict) (x : Done) → P v x → x ≡ Judged v) →
      MatchResult r (λ v. IsOkAnd d (P v)) (λ e. d ≡ Err e) → JudgingSays s rules nodes columns m (take n core) written r → judged_by written r ≡ told_of after lines d
  judged_told (Ok v) (Ok x) P is p says = told_whole (Ok v) says ∙ judged_as after lines v ∙ ap (λ (y : Done). told_of after lines (Ok y)) (sym (is v x p))
  judged_told (Ok v) (Err e) P is p says = absurd p
  judged_told (Err e) d P is same says = ap (told_of after lines) (sym same)

  pub judged_step : (r : Result Verdict Refusal) (d : Result Done Refusal) (P : Verdict → Done → Type 0) → ((v : Verdict) (x : Done) → P v x → x ≡ Judged v) →
      MatchResult r (λ v. IsOkAnd d (P v)) (λ e. d ≡ Err e) → JudgingSays s rules nodes columns m (take n core) written r → StepSays s rules s rules core after lines lines (judging nodes columns m n) d
  judged_step (Ok v) (Ok x) P is p says =
      subst (λ (y : Done). StepSays s rules s rules core after lines lines (judging nodes columns m n) (Ok y)) (sym (is v x p)) (says_front (Ok v) says, refl, refl)
  judged_step (Ok v) (Err e) P is p says = absurd p
  judged_step (Err e) d P is same says =
      subst (StepSays s rules s rules core after lines lines (judging nodes columns m n)) (sym same) (says_front (Err e) says, refl, refl)

module _ (s : Store) (rules : List Denial) (nodes : List Node) (m n : ℕ) (core : List Row) (lines written : List Line) (long : length written ≡ n) where
  -- the lines afterwards: what the sheet left of its front, and the rest
  abbrev left : List Line
  left = written ++ drop n lines

  front_lines : take n left ≡ written
  front_lines = ap (λ k. take k left) (sym long) ∙ take-append_seam written (drop n lines)

  says_lines : (r : Result ℕ Refusal) → ListingSays s rules nodes m (take n lines) written r → ListingSays s rules nodes m (take n lines) (take n left) r
  says_lines r says = subst (λ (ls : List Line). ListingSays s rules nodes m (take n lines) ls r) (sym front_lines) says

  pub listed_told : (r : Result ℕ Refusal) (d : Result Done Refusal) (P : ℕ → Done → Type 0) → ((k : ℕ) (x : Done) → P k x → x ≡ Listed k) →
      MatchResult r (λ k. IsOkAnd d (P k)) (λ e. d ≡ Err e) → ListingSays s rules nodes m (take n lines) written r → listed_by written r ≡ told_of core left d
  listed_told (Ok k) (Ok x) P is p (_, few, _, _) =
      ap listed (sym (take-append-le k written (drop n lines) (omega (arith, length-take n lines, few, long)))) ∙ ap (λ (y : Done). told_of core left (Ok y)) (sym (is k x p))
  listed_told (Ok k) (Err e) P is p says = absurd p
  listed_told (Err e) d P is same says = ap (told_of core left) (sym same)

  pub listed_step : (r : Result ℕ Refusal) (d : Result Done Refusal) (P : ℕ → Done → Type 0) → ((k : ℕ) (x : Done) → P k x → x ≡ Listed k) →
      MatchResult r (λ k. IsOkAnd d (P k)) (λ e. d ≡ Err e) → ListingSays s rules nodes m (take n lines) written r → StepSays s rules s rules core core lines left (listing nodes m n) d
  listed_step (Ok k) (Ok x) P is p says =
      subst (λ (y : Done). StepSays s rules s rules core core lines left (listing nodes m n) (Ok y)) (sym (is k x p)) (says_lines (Ok k) says, refl, refl)
  listed_step (Ok k) (Err e) P is p says = absurd p
  listed_step (Err e) d P is same says =
      subst (StepSays s rules s rules core core lines left (listing nodes m n)) (sym same) (says_lines (Err e) says, refl, refl)
