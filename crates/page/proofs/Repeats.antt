-- A row stands at an earlier place where its record is an earlier record.
use Rattle.std.proofs.Common.{◌≡◌, ℕ, ◌<◌, true, false, not, ◌&&◌, List, [], length, get_or, take, Some, None, sym, ap, ◌∙◌, subst, ⊎_elim, arith}
use Rattle.std.proofs.ByRecursion.{All-get_or}
use Rattle.std.proofs.lemmas.Bool.{cases_Bool, cond-true, cond-false}
use Rattle.std.proofs.lemmas.List.{get_or-take, length-take, take-map}
use Rattle.std.specs.Str.{bytes_eq}
use Rattle.store.specs.Lists.{any}
use Rattle.store.specs.Store.{is_row}
use Rattle.page.specs.Checks.{is_new, is_new_to}
use Rattle.page.specs.Pages.{records_of, places_of}
use Rattle.page.specs.Records.{marks_row, row_in, place_of, record_of}
use Rattle.page.proofs.Numbers.{AreBytes}
use Rattle.page.proofs.Chunks.{record_long, record_small}
use Rattle.page.proofs.Exact.{row_exact, same_record}
use Rattle.page.proofs.Pages.{place_at}
use Rattle.page.proofs.Through.{any_through}

module _ (bytes : List ℕ) (place : ℕ) where
  abbrev this : List ℕ
  this = get_or (records_of bytes) place []

  new_elsewhere : marks_row this ≡ false → is_new (places_of bytes) place ≡ true
  new_elsewhere other = ap (is_new_to (take place (places_of bytes))) (place_at bytes place ∙ cond-false (marks_row this) (Some (row_in this)) None other)

  module _ (small : AreBytes bytes) (inside : place < length (records_of bytes)) (marked : marks_row this ≡ true) where
    long : (k : ℕ) → k < length (records_of bytes) → length (get_or (records_of bytes) k []) ≡ 20
    long k h = All-get_or (λ (r : List ℕ). length r ≡ 20) (records_of bytes) k [] h (record_long bytes)

    here : place_of this ≡ Some (row_in this)
    here = cond-true (marks_row this) (Some (row_in this)) None marked

    exact : (k : ℕ) → k < length (records_of bytes) → marks_row (get_or (records_of bytes) k []) ≡ true → record_of (Some (row_in (get_or (records_of bytes) k []))) ≡ get_or (records_of bytes) k []
    exact k h = row_exact (get_or (records_of bytes) k []) (long k h) (record_small bytes small k)

    new_where_marked : is_new (places_of bytes) place ≡ not (any (λ r. bytes_eq r this) (take place (records_of bytes)))
    unfolding places_of
    new_where_marked =
        let records = records_of bytes in
        let row = row_in this in
        let same = λ (k : ℕ) (h : k < length (take place records)).
        let n = length-take place records in
        subst (λ (r : List ℕ). bytes_eq r this ≡ is_row row (place_of r)) (sym (get_or-take place records k [] (omega arith)))
        (same_record row this (exact place inside marked) here (get_or records k []) (exact k (omega arith))) in
        ap (is_new_to (take place (places_of bytes))) (place_at bytes place ∙ here)
        ∙ ap not (ap (any (is_row row)) (take-map place_of place records) ∙ sym (any_through place_of (is_row row) (λ (r : List ℕ). bytes_eq r this) (take place records) [] same))

  pub new_by_records : AreBytes bytes → place < length (records_of bytes) → not (marks_row this && any (λ r. bytes_eq r this) (take place (records_of bytes))) ≡ is_new (places_of bytes) place
  new_by_records small inside = ⊎_elim
      (λ (marked : marks_row this ≡ true). rw marked (sym (new_where_marked small inside marked)))
      (λ (other : marks_row this ≡ false). rw other (sym (new_elsewhere other)))
      (cases_Bool (marks_row this))
