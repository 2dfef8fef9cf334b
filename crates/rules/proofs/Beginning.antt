-- Choices that are made atom by atom: what a choice begins with, one place more, and when it is whole.
use Rattle.std.proofs.Common.{◌≡◌, ℕ, suc, ◌<◌, ◌≤◌, Bool, true, false, not, ◌&&◌, eqb, leb, List, [], ◌∷◌, ◌++◌, map, length, get_or, take, is_some, Some, None, Option, sym, refl, ap, ◌∙◌, subst, ap₂, inl, inr, ⊎_elim, arith}
use mathlib.Core.List.Memᴰ
use mathlib.Core.List.{Memᴰ}
use Rattle.std.proofs.lemmas.List.{map-append, get_or_append_left, length-map, length_push, take_all}
use Rattle.std.proofs.lemmas.Grind.{flat_map-append}
use Rattle.std.proofs.lemmas.List.Folds.{list_all-append}
use Rattle.std.proofs.lemmas.Bool.{both_ways, and_parts, and_from, or_cases, or_left, or_right, lt-leb, le-leb, eq-eqb, ne_eqb, not_from_true, not_from_false, cases_eq, cases_lt}
use Rattle.store.specs.Lists.{any, all}
use Rattle.store.specs.Places.{OnceIn}
use Rattle.store.specs.Rows.{same_row}
use Rattle.store.specs.Sides.{side_value}
use Rattle.store.specs.Signs.{compares}
use Rattle.store.specs.declared.comparison.Side.{Side}
use Rattle.store.specs.declared.comparison.Side.TheVariants.{Column, Constant}
use Rattle.store.specs.declared.comparison.Comparison.{Comparison}
use Rattle.store.specs.declared.row.Row.{Row}
use Rattle.store.proofs.Alike.{same_row_is, same_row_refl}
use Rattle.store.proofs.Tests.{from_not, all_at, all_put}
use Rattle.rules.specs.Beginnings.{holds_so_far, holds_at_last, breaks_so_far, begins}
use Rattle.rules.specs.Choosing.{Choice}
use Rattle.rules.specs.Comparisons.{side_atom, last_atom, within}
use Rattle.store.specs.Held.{given}
use Rattle.rules.specs.Listing.{rows_at, is_held}
use Rattle.rules.specs.Rules.{Denial, column_of, satisfied, of_relations, breaks}
use Rattle.rules.specs.Sets.{distinct}
use Rattle.rules.specs.declared.rule.AtomColumn.{AtomColumn}
use Rattle.rules.proofs.Apart.{apart_first, apart_rest, apart_put}
use Rattle.rules.proofs.Ascents.{place_in, place_has}
use Rattle.rules.proofs.Choosing.{at_pick, at_put, rows_length}
use Rattle.rules.proofs.Naming.{last_within}

module _ {A : Type 0} (test : A → Bool) where
  all_split : (xs ys : List A) → all test (xs ++ ys) ≡ true → (all test xs ≡ true) × (all test ys ≡ true)
  all_split xs ys h = and_parts (all test xs) (all test ys) (sym (list_all-append test xs ys) ∙ h)

  all_join : (xs ys : List A) → all test xs ≡ true → all test ys ≡ true → all test (xs ++ ys) ≡ true
  all_join xs ys h k = list_all-append test xs ys ∙ and_from (all test xs) (all test ys) h k

module _ {A : Type 0} (same : A → A → Bool) where
  apart_split : (xs ys : List A) → distinct same (xs ++ ys) ≡ true → distinct same xs ≡ true
  apart_split [] ys h = refl
  apart_split (x ∷ xs) ys h = apart_put same x xs (λ y m. apart_first same x (xs ++ ys) h (Memᴰ.append_left ys m)) (apart_split xs ys (apart_rest same x (xs ++ ys) h))

  -- the last is the same as none before it
  apart_last : (xs : List A) {y : A} (x : A) → distinct same (xs ++ x ∷ []) ≡ true → Memᴰ y xs → same y x ≡ true → ⊥
  apart_last [] x h m s = elim m [ ]
  apart_last (z ∷ xs) x h (Memᴰ.head e) s = apart_first same z (xs ++ x ∷ []) h (Memᴰ.append_right xs (Memᴰ.head refl)) (subst (λ w. same w x ≡ true) e s)
  apart_last (z ∷ xs) x h (Memᴰ.tail m) s = apart_last xs x (apart_rest same z (xs ++ x ∷ []) h) m s

  apart_push : (xs : List A) (x : A) → distinct same xs ≡ true → ((y : A) → Memᴰ y xs → same y x ≡ true → ⊥) → distinct same (xs ++ x ∷ []) ≡ true
  apart_push [] x h free = refl
  apart_push (z ∷ xs) x h free = apart_put same z (xs ++ x ∷ [])
      (λ y m s. elim (Memᴰ.append_cases xs m) [
        | inl n ↦ apart_first same z xs h n s
        | inr n ↦ elim (Memᴰ.cases_cons n) [ inl e ↦ free z (Memᴰ.head refl) (subst (λ w. same z w ≡ true) e s) | inr i ↦ absurd (Memᴰ.not-nil i) ]
      ])
      (apart_push xs x (apart_rest same z xs h) (λ y m. free y (Memᴰ.tail m)))

-- the first rows are of the first atoms' relations
relations_split : (atoms : List ℕ) (xs ys : List Row) → of_relations atoms (xs ++ ys) ≡ true → of_relations (take (length xs) atoms) xs ≡ true
relations_split atoms [] ys h = refl
relations_split [] (r ∷ xs) ys h = h
relations_split (a ∷ atoms) (r ∷ xs) ys h = let (e, f) = and_parts (eqb a r.relation) (of_relations atoms (xs ++ ys)) h in and_from _ _ e (relations_split atoms xs ys f)

relations_last : (atoms : List ℕ) (xs : List Row) (r : Row) → of_relations (take (length (xs ++ r ∷ [])) atoms) (xs ++ r ∷ []) ≡ true → eqb (get_or atoms (length xs) 0) r.relation ≡ true
relations_last [] [] r h = absurd (both_ways false refl h)
relations_last [] (x ∷ xs) r h = absurd (both_ways false refl h)
relations_last (a ∷ atoms) [] r h = (and_parts (eqb a r.relation) true h).0
relations_last (a ∷ atoms) (x ∷ xs) r h = relations_last atoms xs r (and_parts (eqb a x.relation) (of_relations (take (length (xs ++ r ∷ [])) atoms) (xs ++ r ∷ [])) h).1

relations_push : (atoms : List ℕ) (xs : List Row) (r : Row) → length xs < length atoms → of_relations (take (length xs) atoms) xs ≡ true → eqb (get_or atoms (length xs) 0) r.relation ≡ true → of_relations (take (length (xs ++ r ∷ [])) atoms) (xs ++ r ∷ []) ≡ true
relations_push [] xs r lt h e = absurd (omega arith)
relations_push (a ∷ atoms) [] r lt h e = and_from _ _ e refl
relations_push (a ∷ atoms) (x ∷ xs) r lt h e = let (f, g) = and_parts (eqb a x.relation) (of_relations (take (length xs) atoms) xs) h in and_from _ _ f (relations_push atoms xs r (omega arith) g e)

relations_long : (atoms : List ℕ) (xs : List Row) → of_relations (take (length xs) atoms) xs ≡ true → length xs ≤ length atoms
relations_long atoms [] h = omega arith
relations_long [] (x ∷ xs) h = absurd (both_ways false refl h)
relations_long (a ∷ atoms) (x ∷ xs) h = omega (arith, relations_long atoms xs (and_parts (eqb a x.relation) (of_relations (take (length xs) atoms) xs) h).1)

-- a side that waits for none of the further rows stands for the same without them
side_settled : (xs ys : List Row) (side : Side AtomColumn) → side_atom side < length xs → side_value (column_of (xs ++ ys)) side ≡ side_value (column_of xs) side
side_settled xs ys (Constant n) lt = refl
side_settled xs ys (Column c) lt =
    let columns : Row → List ℕ = λ r. r.columns in
    ap (λ l. get_or l c.column 0) (ap (λ l. get_or l c.atom []) (map-append columns xs ys) ∙ get_or_append_left (map columns xs) (map columns ys) [] c.atom (omega (arith, length-map xs columns)))

settled : (xs ys : List Row) (c : Comparison AtomColumn) → last_atom c < length xs → satisfied (xs ++ ys) c ≡ satisfied xs c
settled xs ys c lt = ap₂ (compares c.sign) (side_settled xs ys c.left (omega arith)) (side_settled xs ys c.right (omega arith))

-- what holds of all the rows holds of the first of them
so_far : (xs ys : List Row) (c : Comparison AtomColumn) → satisfied (xs ++ ys) c ≡ true → holds_so_far xs c ≡ true
so_far xs ys c h = ⊎_elim
    (λ (lt : last_atom c < length xs). or_right (leb (length xs) (last_atom c)) _ (sym (settled xs ys c lt) ∙ h))
    (λ (le : length xs ≤ last_atom c). or_left _ (satisfied xs c) (le-leb (length xs) (last_atom c) le))
    (cases_lt (last_atom c) (length xs))

decided : (rows : List Row) (c : Comparison AtomColumn) → last_atom c < length rows → holds_so_far rows c ≡ true → satisfied rows c ≡ true
decided rows c lt h = ⊎_elim (λ e. absurd (both_ways _ (lt-leb (length rows) (last_atom c) lt) e)) (λ e. e) (or_cases (leb (length rows) (last_atom c)) (satisfied rows c) h)

-- one row more decides the comparisons that waited for it
at_last : (rows : List Row) (c : Comparison AtomColumn) → holds_so_far rows c ≡ true → holds_at_last rows c ≡ true
at_last rows c h = ⊎_elim
    (λ (e : suc (last_atom c) ≡ length rows). or_right (not (eqb (suc (last_atom c)) (length rows))) _ (decided rows c (omega arith) h))
    (λ ne. or_left _ (satisfied rows c) (not_from_false _ (ne_eqb (suc (last_atom c)) (length rows) ne)))
    (cases_eq (suc (last_atom c)) (length rows))

one_more : (xs : List Row) (r : Row) (c : Comparison AtomColumn) → holds_so_far xs c ≡ true → holds_at_last (xs ++ r ∷ []) c ≡ true → holds_so_far (xs ++ r ∷ []) c ≡ true
one_more xs r c h k =
    let long = length_push xs r in
    ⊎_elim
    (λ (lt : last_atom c < length xs). or_right (leb (length (xs ++ r ∷ [])) (last_atom c)) _ (settled xs (r ∷ []) c lt ∙ decided xs c lt h))
    (λ (le : length xs ≤ last_atom c). ⊎_elim
    (λ (e : suc (last_atom c) ≡ length (xs ++ r ∷ [])). or_right (leb (length (xs ++ r ∷ [])) (last_atom c)) _ (⊎_elim
    (λ n. absurd (both_ways _ (not_from_true _ (eq-eqb (suc (last_atom c)) (length (xs ++ r ∷ [])) e)) n)) (λ s. s)
    (or_cases (not (eqb (suc (last_atom c)) (length (xs ++ r ∷ [])))) (satisfied (xs ++ r ∷ []) c) k)))
    (λ ne. or_left _ (satisfied (xs ++ r ∷ []) c) (le-leb (length (xs ++ r ∷ [])) (last_atom c) (omega arith)))
    (cases_eq (suc (last_atom c)) (length (xs ++ r ∷ []))))
    (cases_lt (last_atom c) (length xs))

module _ (table : List (Option Row)) where
  abbrev held_at : ℕ → Bool
  held_at p = is_held (get_or table p None)

  rows_append : (xs ys : List ℕ) → rows_at table (xs ++ ys) ≡ rows_at table xs ++ rows_at table ys
  rows_append = flat_map-append (λ p. given (get_or table p None))

  pub rows_push : (xs : List ℕ) (p : ℕ) (r : Row) → get_or table p None ≡ Some r → rows_at table (xs ++ p ∷ []) ≡ rows_at table xs ++ r ∷ []
  rows_push xs p r e = rows_append xs (p ∷ []) ∙ ap (λ o. rows_at table xs ++ (given o ++ [])) e

  module _ (rule : Denial) where
    abbrev cs : List (Comparison AtomColumn)
    cs = rule.comparisons

    pub begins_parts : (xs : List ℕ) → begins table rule xs ≡ true →
        (all held_at xs ≡ true) × (of_relations (take (length (rows_at table xs)) rule.atoms) (rows_at table xs) ≡ true) × (distinct same_row (rows_at table xs) ≡ true) × (all (holds_so_far (rows_at table xs)) cs ≡ true)
    begins_parts xs h =
        let rows : List Row = rows_at table xs in
        let (a, b) = and_parts (all held_at xs) (breaks_so_far rule rows) h in
        let (c, d) = and_parts (of_relations (take (length rows) rule.atoms) rows) (distinct same_row rows && all (holds_so_far rows) cs) b in
        let (e, f) = and_parts (distinct same_row rows) (all (holds_so_far rows) cs) d in
        (a, c, e, f)

    pub begins_long : (xs : List ℕ) → begins table rule xs ≡ true → length xs ≤ length rule.atoms
    begins_long xs h = let (a, b, c, d) = begins_parts xs h in omega (arith, rows_length table xs a, relations_long rule.atoms (rows_at table xs) b)

    begins_from : (xs : List ℕ) → all held_at xs ≡ true → of_relations (take (length (rows_at table xs)) rule.atoms) (rows_at table xs) ≡ true → distinct same_row (rows_at table xs) ≡ true → all (holds_so_far (rows_at table xs)) cs ≡ true → begins table rule xs ≡ true
    begins_from xs a b c d = and_from _ _ a (and_from _ _ b (and_from _ _ c d))

    pub begins_none : begins table rule [] ≡ true
    begins_none = begins_from [] refl refl refl (all_put (holds_so_far []) cs (λ c m. or_left (leb 0 (last_atom c)) _ (le-leb 0 (last_atom c) (omega arith))))

    -- a choice that breaks the rule begins so
    pub choice_begins : (xs ys : List ℕ) → Choice table rule (xs ++ ys) → begins table rule xs ≡ true
    choice_begins xs ys c =
        let a : List Row = rows_at table xs in
        let b : List Row = rows_at table ys in
        let broken : breaks rule (a ++ b) ≡ true = subst (λ l. breaks rule l ≡ true) (rows_append xs ys) c.broken in
        let (f, g) = and_parts (of_relations rule.atoms (a ++ b)) (distinct same_row (a ++ b) && all (satisfied (a ++ b)) cs) broken in
        let (h, k) = and_parts (distinct same_row (a ++ b)) (all (satisfied (a ++ b)) cs) g in
        begins_from xs (all_split held_at xs ys c.held).0 (relations_split rule.atoms a b f) (apart_split same_row a b h) (all_put (holds_so_far a) cs (λ x m. so_far a b x (all_at (satisfied (a ++ b)) m k)))

    -- and what begins so and has a place for each atom is one
    pub begins_choice : (xs : List ℕ) → all (within (length rule.atoms)) cs ≡ true → 0 < length rule.atoms → length xs ≡ length rule.atoms → begins table rule xs ≡ true → Choice table rule xs
    begins_choice xs named pos long h =
        let (a, b, c, d) = begins_parts xs h in
        let rows : List Row = rows_at table xs in
        let same : length rows ≡ length rule.atoms = rows_length table xs a ∙ long in
        let all-of-them : of_relations rule.atoms rows ≡ true = subst (λ l. of_relations l rows ≡ true) (take_all (length rows) rule.atoms (omega arith)) b in
        record {
          held = a;
          broken = and_from _ _ all-of-them (and_from _ _ c (all_put (satisfied rows) cs (λ x m.
              decided rows x (omega (arith, last_within (length rule.atoms) x pos (all_at (within (length rule.atoms)) m named))) (all_at (holds_so_far rows) m d))));
        }

    -- one place more
    module _ (xs : List ℕ) (p : ℕ) where
      module _ (r : Row) (stands : get_or table p None ≡ Some r) where
        abbrev rows' : List Row
        rows' = rows_at table xs ++ r ∷ []

        pub push_parts : begins table rule (xs ++ p ∷ []) ≡ true → (eqb (get_or rule.atoms (length (rows_at table xs)) 0) r.relation ≡ true) × (any (eqb p) xs ≡ false) × (all (holds_at_last rows') cs ≡ true)
        push_parts h =
            let (a, b, c, d) = begins_parts (xs ++ p ∷ []) h in
            let e = rows_push xs p r stands in (
              relations_last rule.atoms (rows_at table xs) r (subst (λ l. of_relations (take (length l) rule.atoms) l ≡ true) e b),
              from_not _ (λ t. apart_last same_row (rows_at table xs) r (subst (λ l. distinct same_row l ≡ true) e c) (at_put table r (place_in p xs t) stands) (same_row_refl r)),
              all_put (holds_at_last rows') cs (λ x m. at_last rows' x (all_at (holds_so_far rows') m (subst (λ l. all (holds_so_far l) cs ≡ true) e d))),
            )

        pub push_begins : OnceIn table → begins table rule xs ≡ true → length (rows_at table xs) < length rule.atoms →
            eqb (get_or rule.atoms (length (rows_at table xs)) 0) r.relation ≡ true → any (eqb p) xs ≡ false → all (holds_at_last rows') cs ≡ true → begins table rule (xs ++ p ∷ []) ≡ true
        push_begins once h room rel free last =
            let (a, b, c, d) = begins_parts xs h in
            let rows : List Row = rows_at table xs in
            let e = sym (rows_push xs p r stands) in
            let apart : distinct same_row rows' ≡ true = apart_push same_row rows r c (λ y m s.
            let (q, n, f) = at_pick table xs m in
            let here : q ≡ p = once q p (ap is_some f, f ∙ ap Some (same_row_is y r s) ∙ sym stands) in
            both_ways _ free (place_has (subst (λ z. Memᴰ z xs) here n))) in
            begins_from (xs ++ p ∷ [])
            (all_join held_at xs (p ∷ []) a (and_from (held_at p) true (ap is_held stands) refl))
            (subst (λ l. of_relations (take (length l) rule.atoms) l ≡ true) e (relations_push rule.atoms rows r room b rel))
            (subst (λ l. distinct same_row l ≡ true) e apart)
            (subst (λ l. all (holds_so_far l) cs ≡ true) e (all_put (holds_so_far rows') cs (λ x m. one_more rows r x (all_at (holds_so_far rows) m d) (all_at (holds_at_last rows') m last))))
