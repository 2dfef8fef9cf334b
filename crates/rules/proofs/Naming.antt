-- What comparisons name: columns of a row, and atoms of their rule.
use Rattle.std.proofs.Common.{◌≡◌, ℕ, ◌<◌, ◌≤◌, true, ltb, List, [], ◌∷◌, map, length, get_or, sym, refl, ap, ◌∙◌, subst, arith}
use mathlib.Core.List.Memᴰ
use Rattle.std.proofs.lemmas.List.{get_or-map, length-map}
use Rattle.std.proofs.lemmas.Bool.{and_parts, and_from, ltb-true, lt-ltb}
use Rattle.std.proofs.lemmas.List.Sums.{AllPass-from_list_all}
use Rattle.store.specs.Lists.{all}
use Rattle.store.specs.Sides.{side_passes}
use Rattle.store.specs.declared.comparison.Side.{Side}
use Rattle.store.specs.declared.comparison.Side.TheVariants.{Column, Constant}
use Rattle.store.specs.declared.comparison.Comparison.{Comparison}
use Rattle.store.specs.declared.row.Row.{Row}
use Rattle.rules.specs.Beginnings.{rows_of_picks}
use Rattle.rules.specs.declared.chosen.Pick.{Pick}
use Rattle.rules.specs.Comparisons.{column_within, within, side_atom, last_atom}
use Rattle.rules.specs.Refusals.{column_named, names}
use Rattle.rules.specs.Laws.{HasAtoms}
use Rattle.rules.specs.Rules.{Denial, denial}
use Rattle.rules.specs.declared.rule.AtomColumn.{AtomColumn}
use Rattle.rules.specs.declared.rule.Rule.{Rule}
use Rattle.ordered.proofs.Fews.{items_few}

module _ (arity : ℕ → ℕ) (narrow : (relation : ℕ) → arity relation ≤ 4) (atoms : List ℕ) where
  side_within : (side : Side AtomColumn) → side_passes (column_named arity atoms) side ≡ true → side_passes (column_within (length atoms)) side ≡ true
  side_within (Constant n) h = refl
  side_within (Column c) h =
      let (a, b) = and_parts (ltb c.atom (length atoms)) (ltb c.column (arity (get_or atoms c.atom 0))) h in
      let below = ltb-true c.column _ b in
      and_from _ _ a (lt-ltb c.column 4 (omega (arith, narrow (get_or atoms c.atom 0))))

  pub all_within : (comparisons : List (Comparison AtomColumn)) → all (names arity atoms) comparisons ≡ true → all (within (length atoms)) comparisons ≡ true
  all_within [] h = refl
  all_within (c ∷ cs) h =
      let (here, rest) = and_parts (names arity atoms c) (all (names arity atoms) cs) h in
      let (left, right) = and_parts (side_passes (column_named arity atoms) c.left) (side_passes (column_named arity atoms) c.right) here in
      and_from _ _ (and_from _ _ (side_within c.left left) (side_within c.right right)) (all_within cs rest)

-- a side that is within the rule's atoms is within the first n, if the atom it waits for is
side_waits : (m n : ℕ) (side : Side AtomColumn) → side_passes (column_within m) side ≡ true → side_atom side < n → side_passes (column_within n) side ≡ true
side_waits m n (Constant k) h lt = refl
side_waits m n (Column c) h lt = and_from _ _ (lt-ltb c.atom n lt) (and_parts (ltb c.atom m) (ltb c.column 4) h).1

pub waits : (m n : ℕ) (c : Comparison AtomColumn) → within m c ≡ true → last_atom c < n → within n c ≡ true
waits m n c h lt =
    let (left, right) = and_parts (side_passes (column_within m) c.left) (side_passes (column_within m) c.right) h in
    and_from _ _ (side_waits m n c.left left (omega arith)) (side_waits m n c.right right (omega arith))

side_last : (m : ℕ) (side : Side AtomColumn) → 0 < m → side_passes (column_within m) side ≡ true → side_atom side < m
side_last m (Constant k) pos h = pos
side_last m (Column c) pos h = ltb-true c.atom m (and_parts (ltb c.atom m) (ltb c.column 4) h).0

-- the atom that a comparison waits for is one of the rule's
pub last_within : (m : ℕ) (c : Comparison AtomColumn) → 0 < m → within m c ≡ true → last_atom c < m
last_within m c pos h =
    let (left, right) = and_parts (side_passes (column_within m) c.left) (side_passes (column_within m) c.right) h in
    let a = side_last m c.left pos left in
    let b = side_last m c.right pos right in
    omega arith

-- each comparison of a rule is within three atoms
pub within_three : (r : Rule) (k : ℕ) (d : Comparison AtomColumn) → k < length (denial r).comparisons → within 3 (get_or (denial r).comparisons k d) ≡ true
within_three r k d lt =
    let n = length (denial r).atoms in
    let here = AllPass-from_list_all (within n) (denial r).comparisons r.named k d lt in
    waits n 3 (get_or (denial r).comparisons k d) here (omega (arith, last_within n (get_or (denial r).comparisons k d) r.some here, items_few r.atoms))

-- the columns of the row that is chosen for an atom
pub chosen_columns : (picks : List Pick) (atom : ℕ) (d : Pick) → atom < length picks → get_or (map (λ (r : Row). r.columns) (rows_of_picks picks)) atom [] ≡ (get_or picks atom d).row.columns
chosen_columns picks atom d lt =
    get_or-map (λ (r : Row). r.columns) (rows_of_picks picks) atom d.row [] (omega (arith, length-map picks (λ (p : Pick). p.row)))
    ∙ ap (λ (r : Row). r.columns) (get_or-map (λ (p : Pick). p.row) picks atom d d.row lt)

-- a rule as it is meant, among others
pub rule_at : (rules : List Rule) (k : ℕ) (rule : Rule) → k < length rules → rule ≡ get_or rules k rule → get_or (map denial rules) k (denial rule) ≡ denial rule
rule_at rules k rule lt is = get_or-map denial rules k rule (denial rule) lt ∙ ap denial (sym is)

-- each of some rules has an atom
pub has_atoms : (rules : List Rule) → HasAtoms (map denial rules)
has_atoms rules d m = let (r, i, e) = Memᴰ.of_map denial rules m in subst (λ (x : Denial). 0 < length x.atoms) e r.some
