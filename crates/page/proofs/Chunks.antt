-- Bytes cut into records, and records put together again.
use Rattle.std.proofs.Common.{◌≡◌, ℕ, zero, suc, ◌+◌, ◌*◌, ◌/◌, ◌<◌, ◌≤◌, List, [], ◌∷◌, ◌++◌, map, length, get_or, take, drop, set, sym, refl, ap, ◌∙◌, ap₂, ⊎_elim, arith}
use lib.Seq.{take-append-add, drop-append-add}
use Rattle.std.proofs.lemmas.List.{get_or-take, get_or-drop, get_or_past, append_assoc, length-append, length-take, length-drop, map-id, nil_from_length, take-append-drop, take_at, drop_at}
use Rattle.std.proofs.ByRecursion.{All-set}
use Rattle.std.proofs.lemmas.Bool.{cases_lt}
use Rattle.std.specs.Simd.{first_chunks}
use Rattle.std.specs.List.{flat_map, AllByRecursion as All}
use Rattle.page.specs.Pages.{records_of, written}
use Rattle.page.proofs.Numbers.{AreBytes}

-- each of the things that f makes is as long as a record
abbrev pub Long : {Y : Type 0} → (Y → List ℕ) → List Y → Type 0
Long f = All (λ y. length (f y) ≡ 20)

module _ {Y : Type 0} (f : Y → List ℕ) where
  pub length_joined : (ys : List Y) → Long f ys → length (flat_map f ys) ≡ 20 * length ys
  length_joined [] long = refl
  length_joined (y ∷ ys) long = omega (arith, length-append (f y) (flat_map f ys), length_joined ys long.1, long.0)

  chunked_joined : (ys : List Y) → Long f ys → first_chunks 20 (length ys) (flat_map f ys) ≡ map f ys
  chunked_joined [] long = refl
  chunked_joined (y ∷ ys) long = ap₂ ◌∷◌
      (take_at (f y) (flat_map f ys) 20 long.0)
      (ap (first_chunks 20 (length ys)) (drop_at (f y) (flat_map f ys) 20 long.0) ∙ chunked_joined ys long.1)

  -- what was joined comes apart again
  pub records_joined : (ys : List Y) → Long f ys → records_of (flat_map f ys) ≡ map f ys
  unfolding records_of
  records_joined ys long =
      let count : length (flat_map f ys) / 20 ≡ length ys = omega (arith, length_joined ys long) in
      ap (λ (k : ℕ). first_chunks 20 k (flat_map f ys)) count ∙ chunked_joined ys long

length_chunked : (k : ℕ) (xs : List ℕ) → length (first_chunks 20 k xs) ≡ k
length_chunked zero xs = refl
length_chunked (suc k) xs = ap suc (length_chunked k (drop 20 xs))

pub length_records : (bytes : List ℕ) → length (records_of bytes) ≡ length bytes / 20
unfolding records_of
length_records bytes = length_chunked (length bytes / 20) bytes

chunk_long : (k : ℕ) (xs : List ℕ) → 20 * k ≤ length xs → Long (λ r. r) (first_chunks 20 k xs)
chunk_long zero xs room = tt
chunk_long (suc k) xs room = (omega (arith, length-take 20 xs), chunk_long k (drop 20 xs) (omega (arith, length-drop 20 xs)))

pub record_long : (bytes : List ℕ) → Long (λ r. r) (records_of bytes)
unfolding records_of
record_long bytes = chunk_long (length bytes / 20) bytes (omega arith)

chunk_small : (k : ℕ) (xs : List ℕ) → AreBytes xs → (p : ℕ) → AreBytes (get_or (first_chunks 20 k xs) p [])
chunk_small zero xs small p i = omega arith
chunk_small (suc k) xs small zero i = ⊎_elim
    (λ (h : i < 20). omega (arith, get_or-take 20 xs i 0 h, small i))
    (λ (h : 20 ≤ i). omega (arith, get_or_past (take 20 xs) i 0 (omega (arith, length-take 20 xs))))
    (cases_lt i 20)
chunk_small (suc k) xs small (suc p) i = chunk_small k (drop 20 xs) (λ j. omega (arith, get_or-drop 20 xs j 0, small (20 + j))) p i

pub record_small : (bytes : List ℕ) → AreBytes bytes → (p : ℕ) → AreBytes (get_or (records_of bytes) p [])
unfolding records_of
record_small bytes = chunk_small (length bytes / 20) bytes

joined_chunked : (k : ℕ) (xs : List ℕ) → length xs ≡ 20 * k → flat_map (λ r. r) (first_chunks 20 k xs) ≡ xs
joined_chunked zero xs long = sym (nil_from_length xs long)
joined_chunked (suc k) xs long =
    ap (λ (rest : List ℕ). take 20 xs ++ rest) (joined_chunked k (drop 20 xs) (omega (arith, length-drop 20 xs))) ∙ take-append-drop 20 xs

-- bytes that are whole records are their records joined
pub joined_records : (bytes : List ℕ) (k : ℕ) → length bytes ≡ 20 * k → flat_map (λ r. r) (records_of bytes) ≡ bytes
unfolding records_of
joined_records bytes k long = joined_chunked (length bytes / 20) bytes (omega arith)

-- a write to one record of a page
written_joined : (records : List (List ℕ)) (p : ℕ) (new : List ℕ) → Long (λ r. r) records → p < length records → written (flat_map (λ r. r) records) p new ≡ flat_map (λ r. r) (set records p new)
written_joined [] p new long inside = absurd (omega arith)
written_joined (r ∷ rs) zero new long inside = ap (λ (rest : List ℕ). new ++ rest) (drop_at r (flat_map (λ x. x) rs) 20 long.0)
written_joined (r ∷ rs) (suc p) new long inside =
    let rest = flat_map (λ (x : List ℕ). x) rs in
    let n : 20 * suc p ≡ length r + 20 * p = omega (arith, long.0) in
    let m : 20 * suc p + 20 ≡ length r + (20 * p + 20) = omega (arith, long.0) in
    ap₂ (λ (front back : List ℕ). front ++ (new ++ back))
    (ap (λ (k : ℕ). take k (r ++ rest)) n ∙ take-append-add r rest (20 * p))
    (ap (λ (k : ℕ). drop k (r ++ rest)) m ∙ drop-append-add r rest (20 * p + 20))
    ∙ append_assoc r (take (20 * p) rest) (new ++ drop (20 * p + 20) rest)
    ∙ ap (λ (back : List ℕ). r ++ back) (written_joined rs p new long.1 (omega arith))

pub records_written : (bytes : List ℕ) (k p : ℕ) (new : List ℕ) → length bytes ≡ 20 * k → p < k → length new ≡ 20 → records_of (written bytes p new) ≡ set (records_of bytes) p new
records_written bytes k p new whole inside long =
    let records = records_of bytes in
    let inside' : p < length records = omega (arith, length_records bytes) in
    let long' : Long (λ r. r) (set records p new) = All-set (λ (r : List ℕ). length r ≡ 20) records p new long (record_long bytes) in
    ap (λ (bs : List ℕ). records_of (written bs p new)) (sym (joined_records bytes k whole))
    ∙ ap records_of (written_joined records p new (record_long bytes) inside')
    ∙ records_joined (λ r. r) (set records p new) long'
    ∙ map-id (set records p new)
