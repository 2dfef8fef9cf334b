-- What bytes that pass the check are, and that a source's bytes pass it.
use Rattle.std.proofs.Common.{◌≡◌, ℕ, ◌/◌, ◌%◌, ◌<◌, ◌≤◌, Bool, true, false, ◌&&◌, eqb, ltb, leb, List, [], length, get_or, take, is_some, Some, None, Option, sym, refl, ap, ◌∙◌, subst, ⊎_elim, zero-add, arith}
use Rattle.std.proofs.lemmas.List.FromFn.{length-range_with_len, get_or-range_with_len}
use Rattle.std.proofs.ByRecursion.{All-get_or}
use Rattle.std.proofs.lemmas.List.{get_or-take}
use Rattle.std.proofs.lemmas.Option.{none-some}
use Rattle.std.proofs.lemmas.List.Sums.{AllPass-from_list_all}
use Rattle.std.proofs.lemmas.Bool.{both_ways, cases_order, cond-true, eqb-true, leb-true}
use Rattle.std.specs.List.{range_with_len}
use Rattle.fault.specs.Questions.{ask}
use Rattle.store.specs.Lists.{all}
use Rattle.store.specs.Places.{OnceIn, FitIn}
use Rattle.store.specs.Rows.{arity_in, zero_from}
use Rattle.store.specs.Keeping.{keeps_of}
use Rattle.store.specs.declared.row.Row.{Row}
use Rattle.store.proofs.Places.{inside, held_at}
use Rattle.page.specs.Checks.{is_new, is_new_to, record_refusal, check_refusal, IsPage}
use Rattle.page.specs.Pages.{records_of, places_of}
use Rattle.page.specs.Records.{marks_row, is_marked, is_fit, row_in}
use Rattle.page.specs.declared.refusal.Refusal.TheVariants.{NotWhole, TooLong}
use Rattle.page.proofs.Numbers.{AreBytes}
use Rattle.page.proofs.Chunks.{length_records, record_long, record_small}
use Rattle.page.proofs.Exact.{held, record_exact}
use Rattle.page.proofs.Pages.{length_places, place_at, exact_at, whole_from}

asked : {E : Type 0} (answer : Bool) (refusal : E) (rest : Option E) → ask answer refusal rest ≡ None → (answer ≡ true) × (rest ≡ None)
asked true refusal rest none = (refl, none)
asked false refusal rest none = absurd (none-some refusal (sym none))

each_at : {A : Type 0} (test : A → Bool) (xs : List A) (d : A) → all test xs ≡ true → (k : ℕ) → k < length xs → test (get_or xs k d) ≡ true
each_at test xs d passed k inside = AllPass-from_list_all test xs passed k d inside

some_row : (place : Option Row) → is_some place ≡ true → (row : Row) × (place ≡ Some row)
some_row None some = absurd (both_ways false refl some)
some_row (Some row) some = (row, refl)

-- bytes that pass, question by question
module _ (bytes arities : List ℕ) (passes : check_refusal bytes arities ≡ None) where
  abbrev records : List (List ℕ)
  records = records_of bytes

  abbrev arity : ℕ → ℕ
  arity = arity_in arities

  first : (length bytes % 20 ≡ 0) × (length bytes ≤ 5120) × (record_refusal arity records ≡ None)
  first =
      let (a, more) = asked (eqb (length bytes % 20) 0) NotWhole (ask (leb (length bytes) 5120) TooLong (record_refusal arity records)) passes in
      let (b, rest) = asked (leb (length bytes) 5120) TooLong (record_refusal arity records) more in
      (eqb-true (length bytes % 20) 0 a, leb-true (length bytes) 5120 b, rest)

  second : (all is_marked records ≡ true) × (all (is_fit arity) records ≡ true) × (all (is_new (places_of bytes)) (range_with_len 0 (length records)) ≡ true)
  unfolding places_of
  second =
      let (a, more) = asked (all is_marked records) _ _ first.2 in
      let (b, rest) = asked (all (is_fit arity) records) _ _ more in
      (a, b, (asked (all (is_new (places_of bytes)) (range_with_len 0 (length records))) _ None rest).0)

  fits : FitIn arities (places_of bytes)
  fits p row e =
      let r = get_or records p [] in
      let within : p < length records = omega (arith, inside (places_of bytes) p row e, length_places bytes, length_records bytes) in
      let (marked, is) = held r row (sym (place_at bytes p) ∙ e) in
      let fit : (ltb 0 (arity (row_in r).relation) && zero_from (arity (row_in r).relation) (row_in r).columns) ≡ true = sym (cond-true (marks_row r) _ _ marked) ∙ each_at (is_fit arity) records [] second.1 p within in
      subst (λ (x : Row). (ltb 0 (arity x.relation) && zero_from (arity x.relation) x.columns) ≡ true) is fit

  new_at : (q : ℕ) → q < length records → is_new (places_of bytes) q ≡ true
  new_at q within =
      let n = length-range_with_len 0 (length records) in
      ap (is_new (places_of bytes)) (sym (zero-add q) ∙ sym (get_or-range_with_len 0 (length records) q 0 within)) ∙ each_at (is_new (places_of bytes)) (range_with_len 0 (length records)) 0 second.2 q (omega arith)

  -- a row does not stand at an earlier place too
  apart : (p q : ℕ) (row : Row) → p < q → get_or (places_of bytes) p None ≡ Some row → get_or (places_of bytes) q None ≡ Some row → ⊥
  apart p q row before at_p at-q =
      let places = places_of bytes in
      let here = inside places q row at-q in
      let earlier : get_or (take q places) p None ≡ Some row = get_or-take q places p None before ∙ at_p in
      let stands = held_at (take q places) p row earlier in
      both_ways (is_new places q) (ap (is_new_to (take q places)) at-q ∙ rw stands) (new_at q (omega (arith, length_places bytes, length_records bytes)))

  once : OnceIn (places_of bytes)
  once p q (some, same) =
      let (row, at_p) = some_row (get_or (places_of bytes) p None) some in
      let at-q = sym same ∙ at_p in
      ⊎_elim (λ e. e) (⊎_elim (λ h. absurd (apart p q row h at_p at-q)) (λ h. absurd (apart q p row h at-q at_p))) (cases_order p q)

  few : length (places_of bytes) ≤ 256
  few = omega (arith, length_places bytes, first.1)

  -- real bytes that pass are a page
  pub page_passed : AreBytes bytes → IsPage bytes arities
  page_passed small =
      let exact = exact_at bytes (λ p within. record_exact arity (get_or records p [])
      (All-get_or (λ (r : List ℕ). length r ≡ 20) records p [] within (record_long bytes)) (record_small bytes small p)
      (each_at is_marked records [] second.0 p within) (each_at (is_fit arity) records [] second.1 p within)) in
      record {
        passes = passes;
        whole = whole_from bytes (length bytes / 20) (omega (arith, first.0)) exact;
        kept = keeps_of arities (places_of bytes) few fits once;
      }
