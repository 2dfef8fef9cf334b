-- A conflict of rows by its places, and the rows of a listed conflict.
use Rattle.std.proofs.Common.{◌≡◌, ℕ, zero, suc, ◌+◌, ◌<◌, ◌≤◌, Bool, true, false, cond, ltb, List, [], ◌∷◌, length, get_or, Some, None, filter, Option, sym, refl, subst, inl, inr, arith}
use mathlib.Core.List.{Memᴰ}
use Rattle.std.proofs.lemmas.Bool.{and_from, or_left, lt-ltb, cases_eq}
use Rattle.store.specs.Lists.{any, all}
use Rattle.store.specs.declared.row.Row.{Row}
use Rattle.store.proofs.Places.{inside}
use Rattle.store.proofs.Tests.{any_pick, any_put, all_at, all_put}
use Rattle.rules.specs.Sets.{among}
use Rattle.rules.specs.Rules.{Denial, breaks, conflicts}
use Rattle.store.specs.Held.{rows_of}
use Rattle.rules.specs.Listing.{rows_at, is_held, ascending, forbids, Listed, is_conflict}
use Rattle.rules.proofs.Members.{kept_put, kept_pick, row_in, row_has}
use Rattle.rules.proofs.Breaking.{conflict_put, conflict_pick, alone}
use Rattle.rules.proofs.Choosing.{at_pick, at_put}
use Rattle.rules.proofs.Firsts.{first_put, first_any}
use Rattle.rules.proofs.Holding.{row_at, place_of_lem}
use Rattle.rules.proofs.OnePlace.{conflict_parts, conflict_from}

-- the numbers from s on, n of them
abbrev count : ℕ → ℕ → List ℕ
count zero s = []
count (suc n) s = s ∷ count n (suc s)

count_above : (n s p : ℕ) → Memᴰ p (count n s) → s ≤ p
count_above zero s p m = elim m [ ]
count_above (suc n) s p (mathlib.Core.List.Memᴰ.head e) = omega arith
count_above (suc n) s p (mathlib.Core.List.Memᴰ.tail m) = omega (arith, count_above n (suc s) p m)

count_put : (n s p : ℕ) → s ≤ p → p < s + n → Memᴰ p (count n s)
count_put zero s p a b = absurd (omega arith)
count_put (suc n) s p a b = elim (cases_eq p s) [ inl e ↦ mathlib.Core.List.Memᴰ.head e | inr e ↦ mathlib.Core.List.Memᴰ.tail (count_put n (suc s) p (omega arith) (omega arith)) ]

count_ascends : (test : ℕ → Bool) (n s : ℕ) → ascending (filter test (count n s)) ≡ true
count_ascends test zero s = refl
count_ascends test (suc n) s =
    let rest : List ℕ = filter test (count n (suc s)) in
    elim (test s) as (λ b. ascending (cond b (s ∷ rest) rest) ≡ true) [
      | true ↦ and_from (all (ltb s) rest) (ascending rest) (all_put (ltb s) rest (λ p m. lt-ltb s p (count_above n (suc s) p (kept_pick test (count n (suc s)) m).0))) (count_ascends test n (suc s))
      | false ↦ count_ascends test n (suc s)
    ]

abbrev is_in : List Row → Option Row → Bool
is_in c (Some r) = among c r
is_in c None = false

is_in_held : (c : List Row) (o : Option Row) → is_in c o ≡ true → is_held o ≡ true
is_in_held c (Some r) h = refl
is_in_held c None h = h

module _ (table : List (Option Row)) where
  abbrev has : List Row → ℕ → Bool
  has c p = is_in c (get_or table p None)

  -- the places of the rows of c
  abbrev pub places_of : List Row → List ℕ
  places_of c = filter (has c) (count (length table) 0)

  pub rows_in_lem : (c : List Row) (r : Row) → Memᴰ r (rows_at table (places_of c)) → Memᴰ r c
  rows_in_lem c r m = let (p, n, e) = at_pick table (places_of c) m in
      row_in r c (subst (λ o. is_in c o ≡ true) e (kept_pick (has c) (count (length table) 0) n).1)

  pub rows_of_lem : (c : List Row) → all (among (rows_of table)) c ≡ true → (r : Row) → Memᴰ r c → Memᴰ r (rows_at table (places_of c))
  rows_of_lem c h r m = let (p, e) = place_of_lem table r (all_at (among (rows_of table)) m h) in
      let l : p < length table = inside table p r e in
      at_put table r (kept_put (has c) (count_put (length table) 0 p (omega arith) (omega arith)) (subst (λ o. is_in c o ≡ true) (sym e) (row_has m))) e

  module _ (rules : List Denial) where
    abbrev broken : List Row → Bool
    broken c = any (λ rule. breaks rule c) rules

    -- a conflict of rows is one by its places
    pub placed : (c : List Row) → all (among (rows_of table)) c ≡ true → broken c ≡ true → (k : ℕ) × (is_conflict table rules (record { places = places_of c; rule = k }) ≡ true)
    placed c h b =
        let P : List ℕ = places_of c in
        let rows : List Row = rows_at table P in
        let (rule, i, k) = any_pick (λ rule. breaks rule c) rules b in
        let mine : Memᴰ c (conflicts rows (rule ∷ [])) = conflict_put rows (rule ∷ []) c (all_put (among rows) c (λ r m. row_has (rows_of_lem c h r m))) (or_left (breaks rule c) false k) in
        let forbid : forbids table P rule ≡ true = any_put (λ d. all (among d) rows) mine (all_put (among c) rows (λ r m. row_has (rows_in_lem c r m))) in
        let (n, first) = first_put (forbids table P) rules (any_put (forbids table P) i forbid) in
        let held : all (λ p. is_held (get_or table p None)) P ≡ true =
        all_put (λ p. is_held (get_or table p None)) P (λ p m. is_in_held c (get_or table p None) (kept_pick (has c) (count (length table) 0) m).1) in
        (n, conflict_from table rules (record { places = P; rule = n }) (count_ascends (has c) (length table) 0) held first)

    -- d is a conflict of rows, and its rows are those at c's places
    pub record Stands (c : Listed) (d : List Row) : Type 0 where
      pub held : all (among (rows_of table)) d ≡ true
      pub breaking : broken d ≡ true
      pub part : all (among (rows_at table c.places)) d ≡ true
      pub whole : all (among d) (rows_at table c.places) ≡ true

    -- and a listed conflict has a conflict of rows
    pub stands : (c : Listed) → is_conflict table rules c ≡ true → (d : List Row) × Stands c d
    stands c h =
        let rows : List Row = rows_at table c.places in
        let (rule, i, f) = any_pick (forbids table c.places) rules (first_any (forbids table c.places) rules c.rule (conflict_parts table rules c h).2) in
        let (d, m, w) = any_pick (λ d. all (among d) rows) (conflicts rows (rule ∷ [])) f in
        let (a, b) = conflict_pick rows (rule ∷ []) d m in (
          d,
          record {
            held = all_put (among (rows_of table)) d (λ r n. let (p, j, e) = at_pick table c.places (row_in r rows (all_at (among rows) n a)) in row_at table r p e);
            breaking = any_put (λ rule. breaks rule d) i (alone rule d b);
            part = a;
            whole = w;
          },
        )
