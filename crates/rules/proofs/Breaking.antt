-- The conflicts among rows are the choices of held rows that break a rule.
use Rattle.std.proofs.Common.{◌≡◌, ℕ, Bool, true, false, ◌&&◌, eqb, List, [], ◌∷◌, map, filter, refl, subst, inl, inr}
use mathlib.Core.List.Memᴰ
use mathlib.Core.List.{Memᴰ}
use Rattle.std.proofs.lemmas.Bool.{both_ways, and_parts, and_from, or_cases}
use Rattle.store.specs.Lists.{any, all}
use Rattle.store.specs.Rows.{same_row}
use Rattle.store.specs.declared.row.Row.{Row}
use Rattle.store.proofs.Tests.{any_pick, any_put}
use Rattle.rules.specs.Sets.{among, distinct}
use Rattle.rules.specs.Rules.{Denial, satisfied, of_relations, breaks, choices, conflicts}
use Rattle.rules.specs.Laws.{AreConflicts}
use Rattle.rules.proofs.Members.{kept_put, kept_pick, joined_put, joined_pick, row_in, row_has}

pub breaks_parts : (rule : Denial) (c : List Row) → breaks rule c ≡ true → (of_relations rule.atoms c ≡ true) × (distinct same_row c ≡ true)
breaks_parts rule c h =
    let (a, b) = and_parts (of_relations rule.atoms c) (distinct same_row c && all (satisfied c) rule.comparisons) h in
    (a, (and_parts (distinct same_row c) (all (satisfied c) rule.comparisons) b).0)

module _ (rows : List Row) where
  choices_pick : (atoms : List ℕ) (c : List Row) → Memᴰ c (choices rows atoms) → all (among rows) c ≡ true
  choices_pick [] c (Memᴰ.head e) = rw e refl
  choices_pick [] c (Memᴰ.tail n) = elim n [ ]
  choices_pick (a ∷ atoms) c m =
      let (r, i, n) = joined_pick (λ r. map (◌∷◌ r) (choices rows atoms)) (filter (λ r. eqb a r.relation) rows) m in
      let (d, j, e) = Memᴰ.of_map (◌∷◌ r) (choices rows atoms) n in
      subst (λ x. all (among rows) x ≡ true) e (and_from (among rows r) (all (among rows) d) (row_has (kept_pick (λ r. eqb a r.relation) rows i).0) (choices_pick atoms d j))

  choices_put : (atoms : List ℕ) (c : List Row) → of_relations atoms c ≡ true → all (among rows) c ≡ true → Memᴰ c (choices rows atoms)
  choices_put [] [] f h = Memᴰ.head refl
  choices_put [] (r ∷ c) f h = absurd (both_ways false refl f)
  choices_put (a ∷ atoms) [] f h = absurd (both_ways false refl f)
  choices_put (a ∷ atoms) (r ∷ c) f h =
      let (e, f') = and_parts (eqb a r.relation) (of_relations atoms c) f in
      let (i, h') = and_parts (among rows r) (all (among rows) c) h in
      joined_put (λ r. map (◌∷◌ r) (choices rows atoms)) (kept_put (λ r. eqb a r.relation) (row_in r rows i) e) (Memᴰ.map (◌∷◌ r) (choices_put atoms c f' h'))

  module _ (rules : List Denial) (c : List Row) where
    abbrev broken : Bool
    broken = any (λ rule. breaks rule c) rules

    pub conflict_put : all (among rows) c ≡ true → broken ≡ true → Memᴰ c (conflicts rows rules)
    conflict_put a b = let (rule, i, k) = any_pick (λ rule. breaks rule c) rules b in
        joined_put (λ rule. filter (breaks rule) (choices rows rule.atoms)) i (kept_put (breaks rule) (choices_put rule.atoms c (breaks_parts rule c k).0 a) k)

    pub conflict_pick : Memᴰ c (conflicts rows rules) → (all (among rows) c ≡ true) × (broken ≡ true)
    conflict_pick m = let (rule, i, n) = joined_pick (λ rule. filter (breaks rule) (choices rows rule.atoms)) rules m in
        let (j, k) = kept_pick (breaks rule) (choices rows rule.atoms) n in
        (choices_pick rule.atoms c j, any_put (λ rule. breaks rule c) i k)

pub are_conflicts : AreConflicts
are_conflicts rows rules c =
    let test : Bool = any (λ rule. breaks rule c) rules in (
      (λ h. let (a, b) = and_parts (all (among rows) c) test h in conflict_put rows rules c a b),
      (λ m. let (a, b) = conflict_pick rows rules c m in and_from (all (among rows) c) test a b),
    )

-- a choice that breaks the one rule there is
pub alone : (rule : Denial) (c : List Row) → any (λ rule. breaks rule c) (rule ∷ []) ≡ true → breaks rule c ≡ true
alone rule c h = elim (or_cases (breaks rule c) false h) [ inl e ↦ e | inr e ↦ absurd (both_ways false refl e) ]
