-- A page that one record is written to stays a page.
use Rattle.std.proofs.Common.{◌≡◌, ℕ, ◌+◌, ◌*◌, ◌/◌, ◌%◌, ◌<◌, ◌≤◌, true, false, ltb, List, [], ◌++◌, length, get_or, take, drop, set, is_some, Some, None, Option, sym, refl, ap, ◌∙◌, subst, ⊎_elim, zero-add, arith}
use Rattle.std.proofs.lemmas.List.{get_or_default, get_or-take, length-take, length-drop, length-append}
use Rattle.std.proofs.lemmas.List.Folds.{list_any_none}
use Rattle.std.proofs.lemmas.List.FromFn.{length-range_with_len, get_or-range_with_len}
use Rattle.std.proofs.lemmas.Bool.{cases_Bool, cond-true, cond-false, not_from_false, eq-eqb, le-leb}
use Rattle.std.specs.List.{range_with_len}
use Rattle.store.specs.Lists.{any}
use Rattle.store.specs.Keeping.{keeps_of}
use Rattle.store.specs.Places.{OnceIn, FitIn}
use Rattle.store.specs.Rows.{arity_in, zero_from}
use Rattle.store.specs.Store.{is_row}
use Rattle.store.specs.declared.row.Row.{Row}
use Rattle.store.proofs.Places.{once_put, once_struck, fit_put, fit_struck}
use Rattle.store.proofs.Looked.{row_there}
use Rattle.store.proofs.Tests.{from_not}
use Rattle.page.specs.Checks.{is_new, is_new_to, record_refusal, IsPage}
use Rattle.page.specs.Pages.{records_of, places_of, written}
use Rattle.page.specs.Records.{marks_row, is_marked, is_fit, row_in, place_of, record_of}
use Rattle.page.specs.declared.refusal.Refusal.TheVariants.{Unmarked, Unfit, Repeated}
use Rattle.page.proofs.Asked.{each_passed}
use Rattle.page.proofs.Chunks.{length_records}
use Rattle.page.proofs.Pages.{length_places, place_at, Exact, whole_from, long_from, record_at, places_anew, exact_anew}

marked_of : (place : Option Row) → is_marked (record_of place) ≡ true
marked_of None = refl
marked_of (Some row) = refl

-- records of rows that fit and stand once pass the check
module _ (bytes arities : List ℕ) (exact : Exact bytes) (fit : FitIn arities (places_of bytes)) (once : OnceIn (places_of bytes)) where
  abbrev records : List (List ℕ)
  records = records_of bytes

  abbrev arity : ℕ → ℕ
  arity = arity_in arities

  within : (k : ℕ) → k < length records → k < length (places_of bytes)
  within k h = omega (arith, length_places bytes, length_records bytes)

  marked_at : (k : ℕ) → k < length records → is_marked (get_or records k []) ≡ true
  marked_at k h = ap is_marked (sym (record_at bytes exact k (within k h))) ∙ marked_of (get_or (places_of bytes) k None)

  fit_at : (k : ℕ) → k < length records → is_fit arity (get_or records k []) ≡ true
  fit_at k h = let r = get_or records k [] in ⊎_elim
      (λ (row : marks_row r ≡ true). cond-true (marks_row r) _ _ row ∙ fit k (row_in r) (place_at bytes k ∙ cond-true (marks_row r) (Some (row_in r)) None row))
      (λ (other : marks_row r ≡ false).
      let empty : record_of None ≡ r = ap record_of (sym (place_at bytes k ∙ cond-false (marks_row r) (Some (row_in r)) None other)) ∙ record_at bytes exact k (within k h) in
      ap (is_fit arity) (sym empty))
      (cases_Bool (marks_row r))

  new_at : (q : ℕ) → q < length records → is_new (places_of bytes) q ≡ true
  new_at q h = go (get_or (places_of bytes) q None) refl
    where
      go : (here : Option Row) → get_or (places_of bytes) q None ≡ here → is_new_to (take q (places_of bytes)) here ≡ true
      go None at-q = refl
      go (Some row) at-q = not_from_false _ (list_any_none (is_row row) (take q (places_of bytes)) (λ p d before. from_not _ (λ alike.
          let earlier : (p < q) × (p < length (places_of bytes)) = (omega (arith, length-take q (places_of bytes)), omega (arith, length-take q (places_of bytes))) in
          let at_p : get_or (places_of bytes) p None ≡ Some row = get_or_default (places_of bytes) p None d earlier.1 ∙ sym (get_or-take q (places_of bytes) p d earlier.0) ∙ row_there row _ alike in
          let e = once q p (ap is_some at-q, at-q ∙ sym at_p) in
          absurd (omega arith))))

  records_pass : record_refusal arity records ≡ None
  unfolding places_of
  records_pass =
      let count = length records in
      each_passed is_marked [] records Unmarked _ marked_at
      ∙ each_passed (is_fit arity) [] records Unfit _ fit_at
      ∙ each_passed (is_new (places_of bytes)) 0 (range_with_len 0 count) Repeated None (λ k h.
      let inside : k < count = omega (arith, length-range_with_len 0 count) in
      ap (is_new (places_of bytes)) (get_or-range_with_len 0 count k 0 inside ∙ zero-add k) ∙ new_at k inside)

  page_exact : length bytes % 20 ≡ 0 → length bytes ≤ 5120 → IsPage bytes arities
  page_exact whole short =
      let a = eq-eqb (length bytes % 20) 0 whole in
      let b = le-leb (length bytes) 5120 short in
      record {
        passes = rw (a, b) records_pass;
        whole = whole_from bytes (length bytes / 20) (omega arith) exact;
        kept = keeps_of arities (places_of bytes) (omega (arith, length_places bytes)) fit once;
      }

-- one record of a page is written anew
module _ (bytes arities : List ℕ) (page : IsPage bytes arities) (p : ℕ) (inside : p < length (places_of bytes)) where
  length_written : (new : List ℕ) → length new ≡ 20 → length (written bytes p new) ≡ length bytes
  length_written new long =
      let n = long_from bytes page.whole in
      omega (arith, length-append (take (20 * p) bytes) (new ++ drop (20 * p + 20) bytes), length-append new (drop (20 * p + 20) bytes), length-take (20 * p) bytes, length-drop (20 * p + 20) bytes)

  module _ (new : Option Row) (back : place_of (record_of new) ≡ new) (long : length (record_of new) ≡ 20) where
    anew : FitIn arities (set (places_of bytes) p new) → OnceIn (set (places_of bytes) p new) → IsPage (written bytes p (record_of new)) arities
    anew fit once =
        let places = sym (places_anew bytes page.whole p inside new back long) in
        let n = length_written (record_of new) long in
        let m = long_from bytes page.whole in
        page_exact (written bytes p (record_of new)) arities (exact_anew bytes page.whole p inside new back long) (subst (FitIn arities) places fit) (subst OnceIn places once)
        (omega arith) (omega (arith, page.kept.few))

  module _ (row : Row) (back : place_of (record_of (Some row)) ≡ Some row) (long : length (record_of (Some row)) ≡ 20) where
    pub page_put : ltb 0 (arity_in arities row.relation) ≡ true → zero_from (arity_in arities row.relation) row.columns ≡ true → any (is_row row) (places_of bytes) ≡ false → IsPage (written bytes p (record_of (Some row))) arities
    page_put declared zeros free = anew (Some row) back long (fit_put (places_of bytes) p inside arities row declared zeros page.kept.fit) (once_put (places_of bytes) p inside row free page.kept.once)

    pub places_put : places_of (written bytes p (record_of (Some row))) ≡ set (places_of bytes) p (Some row)
    places_put = places_anew bytes page.whole p inside (Some row) back long

  pub page_struck : IsPage (written bytes p (record_of None)) arities
  page_struck = anew None refl refl (fit_struck (places_of bytes) p inside arities page.kept.fit) (once_struck (places_of bytes) p inside page.kept.once)

  pub places_struck : places_of (written bytes p (record_of None)) ≡ set (places_of bytes) p None
  places_struck = places_anew bytes page.whole p inside None refl refl
