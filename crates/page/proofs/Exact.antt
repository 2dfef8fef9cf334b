-- A record that passes the check is the record of what it holds, and a row is what its record holds.
use Rattle.std.proofs.Common.{◌≡◌, ℕ, true, false, eqb, List, [], ◌∷◌, map, length, get_or, drop, replicate, Some, None, sym, refl, ap, ◌∙◌, ap₂, ⊎_elim, arith}
use Rattle.std.proofs.lemmas.List.FromFn.{fill_by_all}
use Rattle.std.proofs.lemmas.Option.{none-some, same_Some}
use Rattle.std.proofs.lemmas.Slice.Eq.{bytes_eq-Decides}
use Rattle.std.proofs.lemmas.Bool.{and_parts, eqb-true, cases_Bool, cond-true, cond-false}
use Rattle.std.specs.Str.{bytes_eq}
use Rattle.std.specs.List.{range_with_len}
use Rattle.store.specs.Store.{is_row}
use Rattle.store.specs.Lists.{all}
use Rattle.store.specs.declared.row.Row.{Row}
use Rattle.store.proofs.Alike.{same_row_refl}
use Rattle.store.proofs.Looked.{row_there}
use Rattle.store.proofs.Tests.{same_tests}
use Rattle.page.specs.Records.{Proper, marks_row, marks_empty, is_marked, is_fit, row_in, place_of, record_of}
use Rattle.page.proofs.Numbers.{AreBytes, two_bytes, four_bytes, two_number, four_number}

module _ (bytes : List ℕ) (long : length bytes ≡ 20) where
  abbrev at : ℕ → ℕ
  at k = get_or bytes k 0

  pub twenty : bytes ≡ map at (range_with_len 0 20)
  twenty = fill_by_all at bytes 20 0 long (λ k h. refl)

  pub row_exact : AreBytes bytes → marks_row bytes ≡ true → record_of (Some (row_in bytes)) ≡ bytes
  row_exact small marked =
      let (m, n) = and_parts (eqb (at 0) 0x49) (eqb (at 1) 0x43) marked in
      let p = eqb-true (at 0) 0x49 m in
      let q = eqb-true (at 1) 0x43 n in
      let r = two_bytes (at 2) (at 3) (small 2) (small 3) in
      let c0 = four_bytes (at 4) (at 5) (at 6) (at 7) (small 4) (small 5) (small 6) (small 7) in
      let c1 = four_bytes (at 8) (at 9) (at 10) (at 11) (small 8) (small 9) (small 10) (small 11) in
      let c2 = four_bytes (at 12) (at 13) (at 14) (at 15) (small 12) (small 13) (small 14) (small 15) in
      let c3 = four_bytes (at 16) (at 17) (at 18) (at 19) (small 16) (small 17) (small 18) (small 19) in
      let same : record_of (Some (row_in bytes)) ≡ map at (range_with_len 0 20) = cc in
      same ∙ sym twenty

zeros : (xs : List ℕ) → all (eqb 0) xs ≡ true → xs ≡ replicate (length xs) 0
zeros [] zero = refl
zeros (x ∷ xs) zero = let (p, q) = and_parts (eqb 0 x) (all (eqb 0) xs) zero in ap₂ ◌∷◌ (sym (eqb-true 0 x p)) (zeros xs q)

empty_exact : (bytes : List ℕ) → length bytes ≡ 20 → marks_empty bytes ≡ true → all (eqb 0) (drop 2 bytes) ≡ true → record_of None ≡ bytes
empty_exact [] long marked zero = absurd (omega arith)
empty_exact (a ∷ []) long marked zero = absurd (omega arith)
empty_exact (a ∷ b ∷ xs) long marked zero =
    let (m, n) = and_parts (eqb a 0x2E) (eqb b 0x2E) marked in
    let p = eqb-true a 0x2E m in
    let q = eqb-true b 0x2E n in
    let count : length xs ≡ 18 = omega arith in
    let rest : xs ≡ replicate 18 0 = zeros xs zero ∙ ap (λ (k : ℕ). replicate k 0) count in
    λ i. sym p i ∷ sym q i ∷ sym rest i

-- a record that passes is the record of what it holds
pub record_exact : (arity : ℕ → ℕ) (bytes : List ℕ) → length bytes ≡ 20 → AreBytes bytes → is_marked bytes ≡ true → is_fit arity bytes ≡ true → record_of (place_of bytes) ≡ bytes
record_exact arity bytes long small marked fit = ⊎_elim
    (λ row. ap record_of (cond-true (marks_row bytes) (Some (row_in bytes)) None row) ∙ row_exact bytes long small row)
    (λ (other : marks_row bytes ≡ false). ap record_of (cond-false (marks_row bytes) (Some (row_in bytes)) None other)
    ∙ empty_exact bytes long (rw other at marked) (rw other at fit))
    (cases_Bool (marks_row bytes))

-- a row's columns are the four that it has
pub spelled : (row : Row) → length row.columns ≡ 4 → row ≡ record { relation = row.relation; columns = map (λ k. get_or row.columns k 0) (range_with_len 0 4) }
spelled row count = let four = fill_by_all (λ k. get_or row.columns k 0) row.columns 4 0 count (λ k h. refl) in λ i. record { relation = row.relation; columns = four i }

-- what the record of a proper row holds is the row
pub row_back : (row : Row) → Proper row → place_of (record_of (Some row)) ≡ Some row
row_back row proper =
    let at : ℕ → ℕ = λ k. get_or row.columns k 0 in
    let same = spelled row proper.count in
    let p = two_number row.relation proper.relation in
    let c0 = four_number (at 0) (proper.columns 0) in
    let c1 = four_number (at 1) (proper.columns 1) in
    let c2 = four_number (at 2) (proper.columns 2) in
    let c3 = four_number (at 3) (proper.columns 3) in
    let back : place_of (record_of (Some (record { relation = row.relation; columns = map at (range_with_len 0 4) }))) ≡ Some (record { relation = row.relation; columns = map at (range_with_len 0 4) }) = cc in
    ap (λ (r : Row). place_of (record_of (Some r))) same ∙ back ∙ ap Some (sym same)

-- a record that holds a row is marked so
pub held : (bytes : List ℕ) (row : Row) → place_of bytes ≡ Some row → (marks_row bytes ≡ true) × (row_in bytes ≡ row)
held bytes row e = ⊎_elim
    (λ (marked : marks_row bytes ≡ true). (marked, same_Some (row_in bytes) row (sym (cond-true (marks_row bytes) (Some (row_in bytes)) None marked) ∙ e)))
    (λ (other : marks_row bytes ≡ false). absurd (none-some row (sym (cond-false (marks_row bytes) (Some (row_in bytes)) None other) ∙ e)))
    (cases_Bool (marks_row bytes))

-- a record holds a row where it is the row's record
pub same_record : (row : Row) (of_row : List ℕ) → record_of (Some row) ≡ of_row → place_of of_row ≡ Some row
    → (bytes : List ℕ) → (marks_row bytes ≡ true → record_of (Some (row_in bytes)) ≡ bytes) → bytes_eq bytes of_row ≡ is_row row (place_of bytes)
same_record row of_row is back bytes exact =
    let (from, to) = bytes_eq-Decides bytes of_row in
    same_tests (bytes_eq bytes of_row) (is_row row (place_of bytes))
    (λ h. ap (λ (bs : List ℕ). is_row row (place_of bs)) (from h) ∙ ap (is_row row) back ∙ same_row_refl row)
    (λ h. let (marked, alike) = held bytes row (row_there row (place_of bytes) h) in
    to (sym (exact marked) ∙ ap (λ (r : Row). record_of (Some r)) alike ∙ is))
