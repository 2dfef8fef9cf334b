-- Choices that have a given row for one of their atoms.
use Rattle.std.proofs.Common.{◌≡◌, ℕ, zero, suc, ◌+◌, ◌<◌, true, false, eqb, List, [], ◌∷◌, ◌++◌, length, get_or, Some, None, Option, sym, refl, ap, ◌∙◌, subst, inl, inr, arith}
use Rattle.std.proofs.lemmas.Bool.{both_ways, and_parts, or_cases, eqb-true, cases_eq}
use Rattle.store.specs.Lists.{any, all}
use Rattle.store.specs.declared.row.Row.{Row}
use Rattle.rules.specs.Choosing.{Choice}
use Rattle.store.specs.Held.{given}
use Rattle.rules.specs.Listing.{Listed, rows_at, is_held}
use Rattle.rules.specs.Rules.{Denial, of_relations}
use Rattle.rules.specs.Searching.{Grown, Has}
use Rattle.rules.proofs.Breaking.{breaks_parts}
use Rattle.rules.proofs.Choosing.{choice_apart, held_row, rows_length}
use Rattle.rules.proofs.Growing.{grown_more, has_still}

relation_at : (atoms : List ℕ) (rows : List Row) (a : ℕ) (d : Row) → of_relations atoms rows ≡ true → a < length rows → get_or atoms a 0 ≡ (get_or rows a d).relation
relation_at atoms [] a d h lt = absurd (omega arith)
relation_at [] (r ∷ rows) a d h lt = absurd (both_ways false refl h)
relation_at (x ∷ atoms) (r ∷ rows) zero d h lt = eqb-true x r.relation (and_parts (eqb x r.relation) (of_relations atoms rows) h).0
relation_at (x ∷ atoms) (r ∷ rows) (suc a) d h lt = relation_at atoms rows a d (and_parts (eqb x r.relation) (of_relations atoms rows) h).1 (omega arith)

module _ (table : List (Option Row)) where
  row_at : (chosen : List ℕ) (a : ℕ) (row d : Row) → all (λ p. is_held (get_or table p None)) chosen ≡ true → a < length chosen → get_or table (get_or chosen a 0) None ≡ Some row → get_or (rows_at table chosen) a d ≡ row
  row_at [] a row d held lt stands = absurd (omega arith)
  row_at (p ∷ chosen) zero row d held lt stands = ap (λ o. get_or (given o ++ rows_at table chosen) 0 d) stands
  row_at (p ∷ chosen) (suc a) row d held lt stands =
      let (h, rest) = and_parts (is_held (get_or table p None)) (all (λ p. is_held (get_or table p None)) chosen) held in
      let (r, e) = held_row (get_or table p None) h in
      ap (λ o. get_or (given o ++ rows_at table chosen) (suc a) d) e ∙ row_at chosen a row d rest (omega arith) stands

  -- the row that is chosen for an atom is of its relation
  pub chosen_relation : {rule : Denial} {chosen : List ℕ} → Choice table rule chosen → (a : ℕ) → a < length rule.atoms → (row : Row) → get_or table (get_or chosen a 0) None ≡ Some row → get_or rule.atoms a 0 ≡ row.relation
  chosen_relation {rule} {chosen} c a lt row stands =
      let (of, apart) = breaks_parts rule (rows_at table chosen) c.broken in
      let long = (choice_apart table rule chosen c).0 in
      relation_at rule.atoms (rows_at table chosen) a row of (omega (arith, rows_length table chosen c.held)) ∙ ap (λ r. r.relation) (row_at chosen a row row c.held (omega arith) stands)

-- a place among those chosen is that of some atom
pub atom_of : (p : ℕ) (chosen : List ℕ) → any (eqb p) chosen ≡ true → (a : ℕ) × (a < length chosen) × (get_or chosen a 0 ≡ p)
atom_of p [] h = absurd (both_ways false refl h)
atom_of p (q ∷ chosen) h = elim (or_cases (eqb p q) (any (eqb p) chosen) h) [
  | inl e ↦ (0, omega arith, sym (eqb-true p q e))
  | inr t ↦ let (a, lt, e) = atom_of p chosen t in (suc a, omega arith, e)
]

-- the choices that have the place p for an atom are listed
abbrev pub HasAt : List (Option Row) → Denial → ℕ → List Listed → ℕ → Type 0
HasAt table rule p l atom = (chosen : List ℕ) → Choice table rule chosen → get_or chosen atom 0 ≡ p → Has l chosen

-- one atom more is gone through
pub next_atom : {table : List (Option Row)} {rule : Denial} {number : ℕ} (p atom : ℕ) {a b c d : List Listed} → d ≡ c → Grown table rule number a b → ((x : ℕ) → x < atom → HasAt table rule p b x) →
    Grown table rule number b c → HasAt table rule p c atom → Grown table rule number a d × ((x : ℕ) → x < atom + 1 → HasAt table rule p d x)
next_atom {table} {rule} {number} p atom {a} {b} {c} {d} e g before h here = (
  subst (Grown table rule number a) (sym e) (grown_more g h),
  λ x lt chosen ch is. subst (λ l. Has l chosen) (sym e) (elim (cases_eq x atom) [
    | inl s ↦ here chosen ch (ap (λ n. get_or chosen n 0) (sym s) ∙ is)
    | inr ne ↦ has_still chosen h (before x (omega (arith, ne)) chosen ch is)
  ]),
)
