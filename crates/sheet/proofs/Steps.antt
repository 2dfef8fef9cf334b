-- One candidate more.
use Rattle.std.proofs.Common.{◌≡◌, ℕ, ◌≤◌, true, false, ◌⊎◌, List, length, take, filter, Ok, Err, Some, Result, Option, MatchResult, refl, sym, ap, ◌∙◌, subst, inl, inr, ⊎_elim, arith, length-take-le}
use mathlib.Core.List.Memᴰ
use mathlib.Core.List.{Memᴰ}
use Rattle.std.specs.Cmp.{IsTotalOrder}
use Rattle.std.proofs.lemmas.Bool.{both_ways, cases_Bool}
use Rattle.ordered.specs.Columnwise.{by_key}
use Rattle.ordered.specs.Order.{listed as is_listed, entered}
use Rattle.ordered.specs.Promises.{Enters, Refuses}
use Rattle.ordered.specs.declared.entry.Full.{Full as TooFull}
use Rattle.ordered.proofs.Drawn.{entered_count}
use Rattle.ordered.proofs.Entering.{length_entered, member_new, member_old, member_cases, rises_entered, entered_listed}
use Rattle.ordered.proofs.Keyed.{same_columns}
use Rattle.ordered.proofs.Members.{member_from_listed}
use Rattle.store.specs.Held.{rows_of}
use Rattle.store.specs.Store.{Store}
use Rattle.rules.specs.Listing.{Listed}
use Rattle.plan.specs.Answers.{has, is_answer, plan_width}
use Rattle.plan.specs.Truths.{line_fits}
use Rattle.plan.specs.declared.line.Line.{Line}
use Rattle.plan.specs.declared.node.Node.{Node}
use Rattle.plan.proofs.Members.{line_in, line_has}
use Rattle.candidates.specs.Candidates.{is_after, is_candidate, Next}
use Rattle.candidates.proofs.Before.{same_if}
use Rattle.verdict.specs.Verdicts.{CoreMarked}
use Rattle.sheet.specs.Gathering.{Gathered, Grown}
use Rattle.sheet.specs.Sheets.{columns_of, by_columns, Sure, SomeSure, TooMany}

in_order : IsTotalOrder by_columns
in_order = by_key (λ line. line.columns)

-- what is entered among lines is there, beside what was
module _ (line : Line) (lines : List Line) where
  in_columns : {y : Line} {ys : List Line} → Memᴰ y ys → has (columns_of ys) y.columns ≡ true
  in_columns m = line_has (Memᴰ.map (λ (y : Line). y.columns) m)

  has_new : has (columns_of (entered by_columns line lines)) line.columns ≡ true
  has_new = ⊎_elim
      (λ old. let (y, m, e) = member_from_listed by_columns line lines old in subst (λ c. has (columns_of (entered by_columns line lines)) c ≡ true) (same_columns y.columns line.columns e) (in_columns (member_old by_columns line y lines m)))
      (λ new. in_columns (member_new by_columns line lines new))
      (cases_Bool (is_listed by_columns line lines))

  has_old : (columns : List ℕ) → has (columns_of lines) columns ≡ true → has (columns_of (entered by_columns line lines)) columns ≡ true
  has_old columns h =
      let (y, m, e) = Memᴰ.of_map (λ (y : Line). y.columns) lines (line_in columns (columns_of lines) h) in
      subst (λ c. has (columns_of (entered by_columns line lines)) c ≡ true) e (in_columns (member_old by_columns line y lines m))

  is_one : (columns : List ℕ) → has (columns_of (entered by_columns line lines)) columns ≡ true → (columns ≡ line.columns) ⊎ (has (columns_of lines) columns ≡ true)
  is_one columns h =
      let (y, m, e) = Memᴰ.of_map (λ (y : Line). y.columns) (entered by_columns line lines) (line_in columns (columns_of (entered by_columns line lines)) h) in
      ⊎_elim
      (λ same. inl (sym e ∙ ap (λ (y : Line). y.columns) same))
      (λ old. inr (subst (λ c. has (columns_of lines) c ≡ true) e (in_columns old)))
      (member_cases by_columns line y lines m)

module _ (s : Store) (listed : List Listed) (nodes : List Node) where
  -- a line that has a core is not sure
  pub not_sure : (columns marks : List ℕ) → CoreMarked s listed nodes columns marks → Sure s listed nodes columns → ⊥
  not_sure columns marks c sure = let (R, ok, whole) = c.core.some in both_ways (is_answer nodes (filter R (rows_of s.places)) columns) (c.core.none R ok whole) (sure R ok)

  module _ (upto : Option Line) (line : Line) (next : Next nodes (rows_of s.places) upto line.columns) (lines : List Line) (these : Gathered s listed nodes upto lines) where
    -- a candidate up to the line is up to the one before, or is the line
    up_to : (columns : List ℕ) → is_candidate nodes (rows_of s.places) columns ≡ true → is_after (Some line) columns ≡ false → (is_after upto columns ≡ false) ⊎ (columns ≡ line.columns)
    up_to columns is upto-it = ⊎_elim
        (λ past. inr (same_if columns line.columns (next.least columns is past) upto-it))
        inl
        (cases_Bool (is_after upto columns))

    pub passed : (Sure s listed nodes line.columns → ⊥) → Gathered s listed nodes (Some line) lines
    passed none = record {
      some = these.some;
      all = λ columns is upto-it sure. ⊎_elim (λ old. these.all columns is old sure) (λ e. absurd (none (subst (Sure s listed nodes) e sure))) (up_to columns is upto-it);
    }

    module _ (sure : Sure s listed nodes line.columns) where
      some_more : SomeSure s listed nodes (entered by_columns line lines)
      some_more = record {
        ascend = rises_entered in_order line lines these.some.ascend;
        sure = λ columns h. ⊎_elim (λ e. subst (Sure s listed nodes) (sym e) sure) (these.some.sure columns) (is_one line lines columns h);
        fit = λ columns h. ⊎_elim (λ e. ap (line_fits (plan_width nodes)) e ∙ next.fits) (these.some.fit columns) (is_one line lines columns h);
      }

      taken : Gathered s listed nodes (Some line) (entered by_columns line lines)
      taken = record {
        some = some_more;
        all = λ columns is upto-it also. ⊎_elim
            (λ old. has_old line lines columns (these.all columns is old also))
            (λ e. ap (has (columns_of (entered by_columns line lines))) e ∙ has_new line lines)
            (up_to columns is upto-it);
      }

      too_many : is_listed by_columns line lines ≡ false → TooMany s listed nodes (length lines)
      too_many new = record { lines = entered by_columns line lines; some = some_more; more = omega (arith, length_entered by_columns line lines new) }

  module _ (before after : List Line) (count : ℕ) (within : count ≤ length before) (long : length after ≡ length before) (upto : Option Line) (line : Line)
      (next : Next nodes (rows_of s.places) upto line.columns) (these : Gathered s listed nodes upto (take count before)) where
    -- a list with a line more is no shorter
    no_shorter : count ≤ length (entered by_columns line (take count before))
    no_shorter =
        let front = length-take-le count before within in
        ⊎_elim
        (λ old. let e = ap length (entered_listed in_order line (take count before) these.some.ascend old) in omega (arith, e, front))
        (λ new. omega (arith, length_entered by_columns line (take count before) new, front))
        (cases_Bool (is_listed by_columns line (take count before)))

    pub entered_says : Sure s listed nodes line.columns → (r : Result ℕ TooFull) → MatchResult r (Enters by_columns line (take count before) before after) (λ _. Refuses by_columns line (take count before) before after) →
        MatchResult r (Grown s listed nodes before after (Some line) count) (λ _. TooMany s listed nodes (length before))
    entered_says sure (Ok n) h = record {
      more = omega (arith, entered_count these.some.ascend long h, no_shorter);
      within = h.within;
      gathered = subst (Gathered s listed nodes (Some line)) (sym (h.list these.some.ascend)) (taken upto line next (take count before) these sure);
      rest = h.rest;
    }
    entered_says sure (Err full) h = subst (TooMany s listed nodes) h.full (too_many upto line next (take count before) these sure (h.absent these.some.ascend))

    pub passed_says : (Sure s listed nodes line.columns → ⊥) → Grown s listed nodes before before (Some line) count count
    passed_says none = record { more = omega arith; within = within; gathered = passed upto line next (take count before) these none; rest = refl }
