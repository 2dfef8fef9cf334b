use Rattle.std.proofs.Common.{◌≡◌, ℕ, ◌%◌, ◌<◌, ◌&&◌, Bool, not, List, [], length, get_or, take, None, Option, sym, ap, ◌∙◌, zero-add, rules, arith}
use Rattle.std.proofs.Math.Bool.{not-not}
use Rattle.std.proofs.lemmas.Bool.{le-leb, eq-eqb}
use Rattle.std.proofs.lemmas.Iterator.{YieldsList-from_slice}
use Rattle.std.proofs.lemmas.Iterator.Consumers.{YieldsList-from_enumerate}
use Rattle.std.proofs.lemmas.List.FromFn.{length-range_with_len, get_or-range_with_len, length-enumerate_from, get_or-enumerate_from}
use Rattle.store.proofs.Handed.{handed_on}
use Rattle.std.specs.List.{range_with_len, enumerate_from}
use Rattle.std.specs.Result.{result_err}
use Rattle.std.specs.Slice.Iter.{iter_rest}
use Rattle.std.specs.Str.{bytes_eq}
use Rattle.store.specs.Lists.{any}
use Rattle.store.specs.Rows.{arity_in}
use Rattle.page.specs.Checks.{ask_each, is_new, check_refusal}
use Rattle.page.specs.Pages.{records_of, places_of}
use Rattle.page.specs.Records.{marks_row, is_marked, is_fit}
use Rattle.page.specs.declared.refusal.Refusal.{Refusal}
use Rattle.page.specs.declared.refusal.Refusal.TheVariants.{Unmarked, Unfit, Repeated}
use Rattle.page.proofs.Asked.{said, then_told, told_by_map_or, went_on, ended, told_last, asked_by_position, asked_alike}
use Rattle.page.proofs.Numbers.{AreBytes}
use Rattle.page.proofs.Passing.{page_passed}
use Rattle.page.proofs.Repeats.{new_by_records}
use Rattle.page.proofs.checking.check.Goals as goal
use Rattle.page.proofs.checking.check.Goals.{After-map_or, After-map_or-2, After-map_or-3}

-- the questions that are left once each record is marked, and then once each fits
abbrev new_refusal : List ℕ → Option Refusal
new_refusal bytes = ask_each (is_new (places_of bytes)) (range_with_len 0 (length (records_of bytes))) Repeated None

abbrev fit_refusal : List ℕ → List ℕ → Option Refusal
fit_refusal bytes arities = ask_each (is_fit (arity_in arities)) (records_of bytes) Unfit (new_refusal bytes)

-- each question in turn, from what was found
first : (c : After-map_or) → check_refusal c.args.bytes.now c.args.arities.now ≡ then_told (result_err c.map_or.result) (fit_refusal c.args.bytes.now c.args.arities.now)
unfolding places_of
first c =
    let bytes = c.args.bytes.now in
    let whole = eq-eqb (length bytes % 20) 0 c.if-bytes-ne0.false in
    let short = le-leb (length bytes) 5120 c.if-bytes-gt-LONGEST.false in
    let rest = fit_refusal bytes c.args.arities.now in
    let asked : check_refusal bytes c.args.arities.now ≡ said Unmarked rest c.position.result =
    rw (whole, short) (asked_by_position is_marked [] (records_of bytes) Unmarked _ _ _ c.position.ensures.ran (YieldsList-from_slice (records_of bytes) (c.iter.ensures.rest ∙ c.records_in-records.ensures)) (λ x b q k. search rules)) in
    asked ∙ told_by_map_or Unmarked rest c.position.result c.map_or.result c.map_or.ensures (λ i made. search rules)

second : (c : After-map_or-2) → fit_refusal c.args.bytes.now c.args.arities.now ≡ then_told (result_err c.map_or-2.result) (new_refusal c.args.bytes.now)
second c =
    let bytes = c.args.bytes.now in
    let rest = new_refusal bytes in
    asked_by_position (is_fit (arity_in c.args.arities.now)) [] (records_of bytes) Unfit rest _ c.position-2.result c.position-2.ensures.ran (YieldsList-from_slice (records_of bytes) (c.iter-2.ensures.rest ∙ c.records_in-records.ensures)) (λ x b q k. search rules)
    ∙ told_by_map_or Unfit rest c.position-2.result c.map_or-2.result c.map_or-2.ensures (λ i made. search rules)

-- a record repeats one before its place
abbrev repeats : List (List ℕ) → ℕ × List ℕ → Bool
repeats records p = marks_row p.1 && any (λ r. bytes_eq r p.1) (take p.0 records)

by_pairs : (bytes : List ℕ) → AreBytes bytes → new_refusal bytes ≡ ask_each (λ p. not (repeats (records_of bytes) p)) (enumerate_from 0 (records_of bytes)) Repeated None
by_pairs bytes small =
    let records = records_of bytes in
    let count = length-range_with_len 0 (length records) in
    asked_alike (is_new (places_of bytes)) (λ p. not (repeats records p)) 0 (0, []) (range_with_len 0 (length records)) (enumerate_from 0 records) Repeated None (
      omega (arith, count, length-enumerate_from 0 records),
      λ k h.
          let inside : k < length records = omega (arith, count) in
          ap (is_new (places_of bytes)) (get_or-range_with_len 0 (length records) k 0 inside ∙ zero-add k)
          ∙ sym (new_by_records bytes k small inside)
          ∙ ap (λ (n : ℕ). not (repeats records (n, get_or records k []))) (sym (zero-add k))
          ∙ ap (λ (p : ℕ × List ℕ). not (repeats records p)) (sym (get_or-enumerate_from 0 records k (0, []) inside)),
    )

third : (c : After-map_or-3) → new_refusal c.args.bytes.now ≡ then_told (result_err c.map_or-3.result) None
third c =
    let bytes = c.args.bytes.now in
    let records = records_of bytes in
    by_pairs bytes (λ i. (c.type_inv.bytes i).fits)
    ∙ asked_by_position (λ p. not (repeats records p)) (0, []) (enumerate_from 0 records) Repeated None _ c.position-3.result c.position-3.ensures.ran
    (YieldsList-from_enumerate (YieldsList-from_slice records (ap iter_rest c.enumerate.ensures.source ∙ c.iter-3.ensures.rest ∙ c.records_in-records.ensures)) c.enumerate.ensures.count)
    (λ x b q k. let (same, told) : (q ≡ _) × (b ≡ repeats records (x.0, x.1.now)) = search rules in (same, told ∙ sym (not-not _)))
    ∙ told_by_map_or Repeated None c.position-3.result c.map_or-3.result c.map_or-3.ensures (λ i made. search rules)

pub returns-in_err-map_or-clause-says : goal.returns-in_err-map_or-clause-says
returns-in_err-map_or-clause-says c =
    let at = goal.at.returns-in_err-map_or-clause-says c in
    ap result_err (handed_on c.from_residual.result c.from_residual.ensures.1) ∙ sym (ended _ _ _ (first at.After-map_or) _ c.in_err-map_or.was)

pub returns-in_err-map_or-2-clause-says : goal.returns-in_err-map_or-2-clause-says
returns-in_err-map_or-2-clause-says c =
    let at = goal.at.returns-in_err-map_or-2-clause-says c in
    ap result_err (handed_on c.from_residual-in_err-map_or-2.result c.from_residual-in_err-map_or-2.ensures.1) ∙ sym (went_on _ _ _ (first at.After-map_or) _ c.in_ok-map_or.was ∙ ended _ _ _ (second at.After-map_or-2) _ c.in_err-map_or-2.was)

pub returns : goal.returns
returns c =
    let bytes = c.args.bytes.now in
    let at = goal.at.returns c in
    let passes = went_on _ _ _ (first at.After-map_or) _ c.in_ok-map_or.was ∙ went_on _ _ _ (second at.After-map_or-2) _ c.in_ok-map_or-2.was ∙ third at.After-map_or-3 ∙ told_last _ in
    record { says = sym passes; page = λ none. page_passed bytes c.args.arities.now (passes ∙ none) (λ i. (c.type_inv.bytes i).fits) }
