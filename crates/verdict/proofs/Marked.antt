-- The places that are marked as in, in order, and their rows.
use Rattle.std.proofs.Common.{◌≡◌, ℕ, zero, suc, ◌+◌, ◌-◌, ◌<◌, ◌≤◌, true, false, cond, List, [], ◌∷◌, ◌++◌, length, take, drop, set, filter, Some, None, Option, get_or, sym, ap, ◌∙◌, subst, arith, length-append}
use Rattle.std.specs.List.{range_with_len}
use Rattle.std.proofs.lemmas.Grind.{flat_map-append}
use Rattle.std.proofs.lemmas.List.{append-nil, map-id, take_more_set, drop-set-lt, drop-drop}
use Rattle.std.proofs.lemmas.List.Elements.{filter-append}
use Rattle.std.proofs.lemmas.List.FromFn.{map-range_with_len_more}
use Rattle.store.specs.Held.{given}
use Rattle.store.specs.declared.row.Row.{Row}
use Rattle.rules.specs.Listing.{rows_at}
use Rattle.verdict.specs.Marking.{is_in}
use Rattle.verdict.specs.Verdicts.{marked_of}

range_more : (n : ℕ) → range_with_len 0 (n + 1) ≡ range_with_len 0 n ++ n ∷ []
range_more n = sym (map-id (range_with_len 0 (n + 1))) ∙ map-range_with_len_more (λ x. x) 0 n n (omega arith) ∙ ap (λ t. t ++ n ∷ []) (map-id (range_with_len 0 n))

marked_more : (marks : List ℕ) (n : ℕ) → marked_of marks (n + 1) ≡ marked_of marks n ++ cond (is_in marks n) (n ∷ []) []
marked_more marks n = ap (filter (is_in marks)) (range_more n) ∙ filter-append (is_in marks) (range_with_len 0 n) (n ∷ [])

marked_in : (marks : List ℕ) (n : ℕ) → is_in marks n ≡ true → marked_of marks (n + 1) ≡ marked_of marks n ++ n ∷ []
marked_in marks n h = marked_more marks n ∙ ap (λ b. marked_of marks n ++ cond b (n ∷ []) []) h

marked_out : (marks : List ℕ) (n : ℕ) → is_in marks n ≡ false → marked_of marks (n + 1) ≡ marked_of marks n
marked_out marks n h = marked_more marks n ∙ ap (λ b. marked_of marks n ++ cond b (n ∷ []) []) h ∙ append-nil (marked_of marks n)

marked_grows : (marks : List ℕ) (n j : ℕ) → length (marked_of marks n) ≤ length (marked_of marks (n + j))
marked_grows marks n zero = let e : n + 0 ≡ n = omega arith in rw e (omega arith)
marked_grows marks n (suc j) =
    let ih = marked_grows marks n j in
    let e : n + suc j ≡ n + j + 1 = omega arith in
    let last : List ℕ = (n + j) ∷ [] in
    rw (e, marked_more marks (n + j), length-append (marked_of marks (n + j)) (cond (is_in marks (n + j)) last [])) (omega arith)

-- one that is marked is one more
pub one_room : (marks : List ℕ) (n total : ℕ) → n < total → is_in marks n ≡ true → length (marked_of marks n) + 1 ≤ length (marked_of marks total)
one_room marks n total lt h =
    let more = ap length (marked_in marks n h) in
    let grown = marked_grows marks (n + 1) (total - (n + 1)) in
    let e : n + 1 + (total - (n + 1)) ≡ total = omega arith in
    let all : length (marked_of marks (n + 1)) ≤ length (marked_of marks total) = subst (λ t. length (marked_of marks (n + 1)) ≤ length (marked_of marks t)) e grown in
    omega (arith, length-append (marked_of marks n) (n ∷ []))

rows_append : (table : List (Option Row)) (xs : List ℕ) (p : ℕ) → rows_at table (xs ++ p ∷ []) ≡ rows_at table xs ++ given (get_or table p None)
rows_append table xs p = flat_map-append (λ x. given (get_or table x None)) xs (p ∷ []) ∙ ap (λ t. rows_at table xs ++ t) (append-nil (given (get_or table p None)))

-- the rows of the first places that are marked are written
pub record Written (table : List (Option Row)) (marks : List ℕ) (before after : List Row) (n count : ℕ) : Type 0 where
  pub few : count ≤ length (marked_of marks n)
  pub rows : take count after ≡ rows_at table (marked_of marks n)
  pub rest : drop count after ≡ drop count before

module _ (table : List (Option Row)) (marks : List ℕ) (before after : List Row) (n count : ℕ) (w : Written table marks before after n count) where
  pub write_out : is_in marks n ≡ false → Written table marks before after (n + 1) count
  write_out h = record {
    few = rw (marked_out marks n h) w.few;
    rows = w.rows ∙ sym (ap (rows_at table) (marked_out marks n h));
    rest = w.rest;
  }

  module _ (h : is_in marks n ≡ true) where
    pub write_none : get_or table n None ≡ None → Written table marks before after (n + 1) count
    write_none e = record {
      few = let f = w.few in rw (marked_in marks n h, length-append (marked_of marks n) (n ∷ [])) (omega arith);
      rows = w.rows ∙ sym (ap (rows_at table) (marked_in marks n h) ∙ rows_append table (marked_of marks n) n ∙ ap (λ o. rows_at table (marked_of marks n) ++ given o) e ∙ append-nil (rows_at table (marked_of marks n)));
      rest = w.rest;
    }

    pub write_one : (row : Row) → count < length after → get_or table n None ≡ Some row → Written table marks before (set after count row) (n + 1) (count + 1)
    write_one row lt e = record {
      few = let f = w.few in rw (marked_in marks n h, length-append (marked_of marks n) (n ∷ [])) (omega arith);
      rows = take_more_set after count row lt ∙ ap (λ t. t ++ row ∷ []) w.rows
          ∙ sym (ap (rows_at table) (marked_in marks n h) ∙ rows_append table (marked_of marks n) n ∙ ap (λ o. rows_at table (marked_of marks n) ++ given o) e);
      rest = drop-set-lt (count + 1) after count row (omega arith) ∙ sym (drop-drop 1 count after) ∙ ap (drop 1) w.rest ∙ drop-drop 1 count before;
    }
