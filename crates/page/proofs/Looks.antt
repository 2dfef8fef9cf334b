-- What a page's looks through its records tell of its places.
use Rattle.std.proofs.Common.{◌≡◌, ℕ, ◌<◌, Bool, true, false, not, cond, List, [], length, get_or, Some, None, Option, sym, refl, ap, ◌∙◌, subst, arith}
use Rattle.std.proofs.lemmas.Bool.{cond-true}
use Rattle.std.specs.Str.{bytes_eq}
use Rattle.store.specs.Store.{is_row, is_empty}
use Rattle.store.specs.declared.row.Row.{Row}
use Rattle.store.proofs.Firsts.{First}
use Rattle.page.specs.Pages.{records_of, places_of, page_of}
use Rattle.page.specs.Records.{marks_row, row_in, place_of, record_of}
use Rattle.page.proofs.Chunks.{length_records}
use Rattle.page.proofs.Exact.{same_record}
use Rattle.page.proofs.Pages.{length_places, place_at, exact_from, record_at}
use Rattle.page.proofs.Through.{first_through}

module _ (bytes : List ℕ) (records : List (List ℕ)) (cut : records ≡ records_of bytes) (r : Option ℕ) where
  empty_where : (b : Bool) (row : Row) → not b ≡ is_empty (cond b (Some row) None)
  empty_where true row = refl
  empty_where false row = refl

  -- the first record that is not marked as a row is the first empty place
  pub first_empty : First (λ r. not (marks_row r)) records r → First is_empty (places_of bytes) r
  unfolding places_of
  first_empty seen = first_through place_of is_empty (λ r. not (marks_row r)) (records_of bytes) [] (λ k h. let r = get_or (records_of bytes) k [] in empty_where (marks_row r) (row_in r)) r
      (subst (λ (rs : List (List ℕ)). First (λ r. not (marks_row r)) rs r) cut seen)

  -- the first record that is a row's is the row's place
  pub first_row : (whole : page_of (places_of bytes) ≡ bytes) (row : Row) (of_row : List ℕ) → of_row ≡ record_of (Some row) → place_of of_row ≡ Some row
      → First (λ r. bytes_eq r of_row) records r → First (is_row row) (places_of bytes) r
  unfolding places_of
  first_row whole row of_row is back seen =
      let exact = λ (k : ℕ) (h : k < length (records_of bytes)) (marked : marks_row (get_or (records_of bytes) k []) ≡ true).
      let r = get_or (records_of bytes) k [] in
      ap record_of (sym (place_at bytes k ∙ cond-true (marks_row r) (Some (row_in r)) None marked)) ∙ record_at bytes (exact_from bytes whole) k (omega (arith, length_places bytes, length_records bytes)) in
      first_through place_of (is_row row) (λ r. bytes_eq r of_row) (records_of bytes) [] (λ k h. same_record row of_row (sym is) back (get_or (records_of bytes) k []) (exact k h)) r
      (subst (λ (rs : List (List ℕ)). First (λ r. bytes_eq r of_row) rs r) cut seen)
