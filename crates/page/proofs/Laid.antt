-- A page that is written record by record.
use Rattle.std.proofs.Common.{◌≡◌, ℕ, ◌+◌, ◌*◌, ◌<◌, ◌≤◌, List, [], map, length, get_or, set, None, Option, sym, ap, ◌∙◌, arith, below_more}
use Rattle.std.proofs.lemmas.List.{get_or-set_same, get_or-set_other, get_or-map, length-map, ext_get_or}
use Rattle.std.proofs.lemmas.List.Folds.{flat_map-map}
use Rattle.std.specs.List.{flat_map}
use Rattle.store.specs.declared.row.Row.{Row}
use Rattle.page.specs.Pages.{records_of, places_of, page_of, written}
use Rattle.page.specs.Records.{place_of, record_of}
use Rattle.page.proofs.Chunks.{length_records, joined_records, records_written}
use Rattle.page.proofs.Pages.{length_places, place_at}

-- the first n records are those of the places
pub record Laid (places : List (Option Row)) (bytes : List ℕ) (n : ℕ) : Type 0 where
  pub long : length bytes ≡ 20 * length places
  pub laid : (k : ℕ) → k < n → get_or (records_of bytes) k [] ≡ record_of (get_or places k None)
  pub back : (k : ℕ) → k < n → place_of (record_of (get_or places k None)) ≡ get_or places k None

module _ (places : List (Option Row)) (bytes : List ℕ) where
  pub laid_more : (n : ℕ) (after : List ℕ) → n < length places → length after ≡ length bytes → Laid places bytes n
      → length (record_of (get_or places n None)) ≡ 20 → place_of (record_of (get_or places n None)) ≡ get_or places n None
      → after ≡ written bytes n (record_of (get_or places n None)) → Laid places after (n + 1)
  laid_more n after inside kept sofar whole here anew =
      let new = record_of (get_or places n None) in
      let records : records_of after ≡ set (records_of bytes) n new = ap records_of anew ∙ records_written bytes (length places) n new sofar.long inside whole in
      record {
        long = kept ∙ sofar.long;
        laid = below_more _ _
            (λ k h. ap (λ (rs : List (List ℕ)). get_or rs k []) records ∙ get_or-set_other (records_of bytes) n k new [] (omega arith) ∙ sofar.laid k h)
            (ap (λ (rs : List (List ℕ)). get_or rs n []) records ∙ get_or-set_same (records_of bytes) n new [] (omega (arith, length_records bytes, sofar.long)));
        back = below_more _ _ sofar.back here;
      }

  module _ (n : ℕ) (end : length places ≤ n) (all : Laid places bytes n) where
    records_all : records_of bytes ≡ map record_of places
    records_all =
        let count = length_records bytes in
        ext_get_or [] (records_of bytes) (map record_of places) (omega (arith, all.long, length-map places record_of)) (λ k h.
        let inside : k < length places = omega (arith, all.long) in
        all.laid k (omega arith) ∙ sym (get_or-map record_of places k None [] inside))

    pub laid_page : bytes ≡ page_of places
    unfolding page_of
    laid_page = sym (joined_records bytes (length places) all.long) ∙ ap (flat_map (λ r. r)) records_all ∙ flat_map-map (λ r. r) record_of places

    pub laid_back : places_of bytes ≡ places
    laid_back =
        let count = length_places bytes in
        ext_get_or None (places_of bytes) places (omega (arith, all.long)) (λ k h.
        let inside : k < length places = omega (arith, all.long) in
        place_at bytes k ∙ ap place_of (all.laid k (omega arith)) ∙ all.back k (omega arith))
