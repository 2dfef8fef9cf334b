-- Bytes, records and places of a page, and how one gives the others.
use Rattle.std.proofs.Common.{◌≡◌, ℕ, ◌*◌, ◌/◌, ◌<◌, Bool, true, false, cond, List, [], ◌∷◌, map, length, get_or, set, Some, None, Option, sym, refl, ap, ◌∙◌, arith}
use Rattle.std.proofs.Math.ListN.{get_or-map as map_read}
use Rattle.std.proofs.lemmas.List.{length-map, map-set, get_or-map, ext_get_or}
use Rattle.std.proofs.lemmas.List.Folds.{flat_map-map}
use Rattle.std.specs.List.{flat_map}
use Rattle.store.specs.declared.row.Row.{Row}
use Rattle.page.specs.Pages.{records_of, places_of, page_of, written}
use Rattle.page.specs.Records.{marks_row, row_in, place_of, record_of}
use Rattle.page.proofs.Chunks.{Long, length_records, joined_records, records_joined, records_written}

pub length_places : (bytes : List ℕ) → length (places_of bytes) ≡ length bytes / 20
unfolding places_of
length_places bytes = length-map (records_of bytes) place_of ∙ length_records bytes

pub place_at : (bytes : List ℕ) (p : ℕ) → get_or (places_of bytes) p None ≡ place_of (get_or (records_of bytes) p [])
unfolding places_of
place_at bytes p = map_read place_of (records_of bytes) p []

-- the records are those of the places
abbrev pub Exact : List ℕ → Type 0
Exact bytes = map record_of (places_of bytes) ≡ records_of bytes

place_long : (b : Bool) (bytes : List ℕ) → length (record_of (cond b (Some (row_in bytes)) None)) ≡ 20
place_long true bytes = refl
place_long false bytes = refl

places_long : (records : List (List ℕ)) → Long record_of (map place_of records)
places_long [] = tt
places_long (r ∷ rs) = (place_long (marks_row r) r, places_long rs)

pub whole_from : (bytes : List ℕ) (k : ℕ) → length bytes ≡ 20 * k → Exact bytes → page_of (places_of bytes) ≡ bytes
unfolding page_of
whole_from bytes k long exact = sym (flat_map-map (λ r. r) record_of (places_of bytes)) ∙ ap (flat_map (λ r. r)) exact ∙ joined_records bytes k long

pub exact_from : (bytes : List ℕ) → page_of (places_of bytes) ≡ bytes → Exact bytes
unfolding page_of places_of
exact_from bytes whole = sym (records_joined record_of (places_of bytes) (places_long (records_of bytes))) ∙ ap records_of whole

-- a page is whole records
pub long_from : (bytes : List ℕ) → page_of (places_of bytes) ≡ bytes → length bytes ≡ 20 * length (places_of bytes)
unfolding page_of places_of
long_from bytes whole = ap length (sym whole) ∙ Rattle.page.proofs.Chunks.length_joined record_of (places_of bytes) (places_long (records_of bytes))

-- each record is the record of its place
pub record_at : (bytes : List ℕ) → Exact bytes → (p : ℕ) → p < length (places_of bytes) → record_of (get_or (places_of bytes) p None) ≡ get_or (records_of bytes) p []
record_at bytes exact p inside = sym (get_or-map record_of (places_of bytes) p None [] inside) ∙ ap (λ (rs : List (List ℕ)). get_or rs p []) exact

pub exact_at : (bytes : List ℕ) → ((p : ℕ) → p < length (records_of bytes) → record_of (place_of (get_or (records_of bytes) p [])) ≡ get_or (records_of bytes) p []) → Exact bytes
exact_at bytes each =
    let n = length-map (places_of bytes) record_of in
    ext_get_or [] (map record_of (places_of bytes)) (records_of bytes) (omega (arith, n, length_places bytes, length_records bytes)) (λ p h.
    let inside : p < length (places_of bytes) = omega (arith, n) in
    get_or-map record_of (places_of bytes) p None [] inside ∙ ap record_of (place_at bytes p) ∙ each p (omega (arith, length_places bytes, length_records bytes)))

-- one place is written anew
module _ (bytes : List ℕ) (whole : page_of (places_of bytes) ≡ bytes) (p : ℕ) (inside : p < length (places_of bytes)) (new : Option Row) (back : place_of (record_of new) ≡ new) (long : length (record_of new) ≡ 20) where
  records_anew : records_of (written bytes p (record_of new)) ≡ set (records_of bytes) p (record_of new)
  records_anew = records_written bytes (length (places_of bytes)) p (record_of new) (long_from bytes whole) inside long

  pub places_anew : places_of (written bytes p (record_of new)) ≡ set (places_of bytes) p new
  unfolding places_of
  places_anew = ap (map place_of) records_anew ∙ map-set place_of (records_of bytes) p (record_of new) ∙ ap (set (places_of bytes) p) back

  pub exact_anew : Exact (written bytes p (record_of new))
  exact_anew = ap (map record_of) places_anew ∙ map-set record_of (places_of bytes) p new ∙ ap (λ (rs : List (List ℕ)). set rs p (record_of new)) (exact_from bytes whole) ∙ sym records_anew
