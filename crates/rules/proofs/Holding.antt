-- The rows that a list of places holds, and its empty places, before and after a row is put or struck.
use Rattle.std.proofs.Common.{◌≡◌, ℕ, zero, suc, true, false, cond, not, ◌&&◌, ◌≢◌, List, [], ◌∷◌, get_or, set, is_some, Some, None, Option, sym, refl, ap, ◌∙◌, subst, inl, inr, arith, get_or-set_other, get_or-set_same}
use Rattle.std.proofs.lemmas.Bool.{both_ways, or_cases, or_left, or_right, and_parts, and_from, not-true, not_from_false, lt-ltb}
use Rattle.std.proofs.lemmas.List.Sums.{sum_by-set, sum_by-cons}
use Rattle.store.specs.Rows.{same_row}
use Rattle.store.specs.Store.{is_empty}
use Rattle.store.specs.declared.row.Row.{Row}
use Rattle.store.proofs.Tests.{from_not, same_tests}
use Rattle.store.proofs.Alike.{same_row_is, same_row_refl}
use Rattle.store.proofs.Places.{same?, inside, held_at}
use Rattle.store.proofs.HeldRows.{row_held}
use Rattle.rules.specs.Sets.{among, with}
use Rattle.store.specs.Held.{rows_of, empties}
use Rattle.rules.specs.Listing.{AlikeBut}
use Rattle.rules.specs.Laws.{HeldRows, PutRows, StruckRows, PutEmpties, StruckEmpties, SomeEmpty}

pub held_rows : HeldRows
held_rows = row_held

-- a row is held just where some place has it
pub row_at : (table : List (Option Row)) (r : Row) (p : ℕ) → get_or table p None ≡ Some r → among (rows_of table) r ≡ true
row_at table r p e = held_rows table r ∙ held_at table p r e

pub place_of_lem : (table : List (Option Row)) (r : Row) → among (rows_of table) r ≡ true → (p : ℕ) × (get_or table p None ≡ Some r)
place_of_lem [] r h = absurd (both_ways false refl h)
place_of_lem (Some x ∷ table) r h = elim (or_cases (same_row r x) (among (rows_of table) r) h) [
  | inl e ↦ (zero, ap Some (sym (same_row_is r x e)))
  | inr k ↦ let (p, e) = place_of_lem table r k in (suc p, e)
]
place_of_lem (None ∷ table) r h = let (p, e) = place_of_lem table r h in (suc p, e)

filled : {row : Row} → ◌≡◌ {A = Option Row} (Some row) None → ⊥
filled {row} e = let z : ◌≡◌ {A = ℕ} 0 1 = cc in omega arith

same_row_lem : {a b : Row} → ◌≡◌ {A = Option Row} (Some a) (Some b) → same_row a b ≡ true
same_row_lem {a} {b} e = let f : a ≡ b = cc in subst (λ x. same_row a x ≡ true) f (same_row_refl a)

at_one : (table : List (Option Row)) {p q : ℕ} → p ≡ q → get_or table p None ≡ get_or table q None
at_one table e = ap (λ k. get_or table k None) e

-- a write changes one place
pub set_alike : (table : List (Option Row)) (p : ℕ) (o : Option Row) → AlikeBut p (set table p o) table
set_alike table p o i ne = get_or-set_other table p i o None ne

pub alike_set : (table : List (Option Row)) (p : ℕ) (o : Option Row) → AlikeBut p table (set table p o)
alike_set table p o i ne = sym (set_alike table p o i ne)

pub struck_none : (table : List (Option Row)) (p : ℕ) (row : Row) → get_or table p None ≡ Some row → get_or (set table p None) p None ≡ None
struck_none table p row stood = get_or-set_same table p None None (inside table p row stood)

pub put_rows : PutRows
put_rows table p row lt none r =
    let after : List (Option Row) = set table p (Some row) in
    let here : get_or after p None ≡ Some row = get_or-set_same table p (Some row) None lt in
    same_tests (among (rows_of after) r) (with row (among (rows_of table)) r)
    (λ h. let (i, e) = place_of_lem after r h in elim (same? i p) [
      | inl s ↦ or_left (same_row r row) _ (same_row_lem (sym e ∙ at_one after s ∙ here))
      | inr ne ↦ or_right (same_row r row) _ (row_at table r i (alike_set table p (Some row) i ne ∙ e))
    ])
    (λ h. elim (or_cases (same_row r row) (among (rows_of table) r) h) [
      | inl s ↦ row_at after r p (here ∙ ap Some (sym (same_row_is r row s)))
      | inr k ↦ let (i, e) = place_of_lem table r k in
          row_at after r i (set_alike table p (Some row) i (λ s. filled (sym e ∙ at_one table s ∙ none)) ∙ e)
    ])

pub struck_rows : StruckRows
struck_rows table once p row stood r =
    let after : List (Option Row) = set table p None in
    same_tests (among (rows_of after) r) (among (rows_of table) r && not (same_row r row))
    (λ h. let (i, e) = place_of_lem after r h in
    let ne : i ≢ p = λ s. filled (sym e ∙ at_one after s ∙ struck_none table p row stood) in
    let f : get_or table i None ≡ Some r = alike_set table p None i ne ∙ e in
    and_from (among (rows_of table) r) (not (same_row r row)) (row_at table r i f)
    (not_from_false (same_row r row) (from_not (same_row r row) (λ s. ne (once i p (ap is_some f, f ∙ ap Some (same_row_is r row s) ∙ sym stood))))))
    (λ h. let (k, n) = and_parts (among (rows_of table) r) (not (same_row r row)) h in
    let (i, e) = place_of_lem table r k in
    let ne : i ≢ p = λ s. both_ways (same_row r row) (not-true (same_row r row) n) (same_row_lem (sym e ∙ at_one table s ∙ stood)) in
    row_at after r i (set_alike table p None i ne ∙ e))

-- what a place adds to the number of empty places
abbrev one : Option Row → ℕ
one o = cond (is_empty o) 1 0

pub put_empties : PutEmpties
put_empties table p row lt none = omega (arith, sum_by-set one table p (Some row) None lt, ap one none)

pub struck_empties : StruckEmpties
struck_empties table p row stood = omega (arith, sum_by-set one table p None None (inside table p row stood), ap one stood)

pub some_empty : SomeEmpty
some_empty [] = refl
some_empty (Some r ∷ table) = some_empty table
some_empty (None ∷ table) = sym (lt-ltb 0 (empties (None ∷ table)) (omega (arith, sum_by-cons one None table)))
