-- What a rule forbids among rows.
use Rattle.std.specs.Prelude.{◌≡◌, ℕ, ◌≤◌, Bool, true, false, ◌&&◌, List, [], ◌∷◌, map, length, filter, ◌==◌, nat_eq, slice_index, slice_index_or}
use Rattle.std.specs.List.{flat_map}
use Rattle.ordered.specs.Lists.{items_in}
use Rattle.store.specs.Lists.{any, all}
use Rattle.store.specs.Rows.{same_row}
use Rattle.store.specs.Sides.{holds_by}
use Rattle.store.specs.declared.comparison.Comparison.{Comparison}
use Rattle.store.specs.declared.row.Row.{Row}
use Rattle.rules.specs.Sets.{among, distinct, same_rows}
use Rattle.rules.specs.declared.rule.AtomColumn.{AtomColumn}
use Rattle.rules.specs.declared.rule.Rule.{Rule}

-- a rule as it is meant: a relation for each atom, and the comparisons (a denial constraint)
pub record Denial : Type 0 where
  pub atoms : List ℕ
  pub comparisons : List (Comparison AtomColumn)

-- the rule that the two lists hold
abbrev pub denial : Rule → Denial
denial rule = record { atoms = items_in rule.atoms; comparisons = items_in rule.comparisons }

-- the number in a column, when a row is chosen for each atom
abbrev pub column_of : List Row → AtomColumn → ℕ
column_of chosen c = slice_index (slice_index_or (map (λ r. r.columns) chosen) c.atom []) c.column

-- the comparison holds of the chosen rows
abbrev pub satisfied : List Row → Comparison AtomColumn → Bool
satisfied chosen c = holds_by (column_of chosen) c

-- there is one row for each atom, of that atom's relation
abbrev pub of_relations : List ℕ → List Row → Bool
of_relations [] [] = true
of_relations [] (r ∷ rows) = false
of_relations (a ∷ atoms) [] = false
of_relations (a ∷ atoms) (r ∷ rows) = a == r.relation && of_relations atoms rows

-- a choice of one row for each atom, all different, breaks the rule when all its comparisons hold
abbrev pub breaks : Denial → List Row → Bool
breaks rule chosen = of_relations rule.atoms chosen && (distinct same_row chosen && all (satisfied chosen) rule.comparisons)

-- the rows break some rule together: a conflict among the rows held
abbrev pub forbidden : List Row → List Denial → List Row → Bool
forbidden rows rules chosen = all (among rows) chosen && any (λ rule. breaks rule chosen) rules

-- all ways to choose a row for each atom
abbrev pub choices : List Row → List ℕ → List (List Row)
choices rows [] = [] ∷ []
choices rows (a ∷ atoms) = flat_map (λ r. map (◌∷◌ r) (choices rows atoms)) (filter (λ r. nat_eq a r.relation) rows)

-- every choice that breaks a rule; choices with the same rows are one conflict
abbrev pub conflicts : List Row → List Denial → List (List Row)
conflicts rows rules = flat_map (λ rule. filter (breaks rule) (choices rows rule.atoms)) rules

-- there are at most n conflicts: no list of different ones is longer
abbrev pub AtMost : ℕ → List Row → List Denial → Type 0
AtMost n rows rules = (cs : List (List Row)) → all (forbidden rows rules) cs ≡ true → distinct same_rows cs ≡ true → length cs ≤ n
