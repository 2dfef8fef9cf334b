-- Choices that are made atom by atom.
use Rattle.std.specs.Prelude.{◌≡◌, ℕ, suc, Bool, true, false, not, ◌&&◌, ◌||◌, List, [], ◌∷◌, ◌++◌, map, length, take, Some, None, Option, ◌==◌, nat_le, slice_index_or}
use Rattle.ordered.specs.Lists.{items_in}
use Rattle.ordered.specs.declared.few.Few.{Few}
use Rattle.store.specs.Lists.{all}
use Rattle.store.specs.Rows.{same_row}
use Rattle.store.specs.declared.comparison.Comparison.{Comparison}
use Rattle.store.specs.declared.row.Row.{Row}
use Rattle.rules.specs.Comparisons.{last_atom}
use Rattle.rules.specs.Listing.{rows_at, is_held}
use Rattle.rules.specs.Rules.{Denial, satisfied, of_relations}
use Rattle.rules.specs.Sets.{distinct}
use Rattle.rules.specs.declared.chosen.Pick.{Pick}
use Rattle.rules.specs.declared.rule.AtomColumn.{AtomColumn}

-- the rows of some picks
abbrev pub rows_of_picks : List Pick → List Row
rows_of_picks picks = map (λ p. p.row) picks

-- a row for each of the first atoms
abbrev pub Chosen : Type 0
Chosen = Few Pick 3

-- the places chosen, and the rows that were read there
abbrev pub places_in : Chosen → List ℕ
places_in c = map (λ p. p.place) (items_in c)

abbrev pub rows_in : Chosen → List Row
rows_in c = rows_of_picks (items_in c)

-- the comparison holds, if the rows for its atoms are among these
abbrev pub holds_so_far : List Row → Comparison AtomColumn → Bool
holds_so_far rows c = nat_le (length rows) (last_atom c) || satisfied rows c

-- the comparison holds, if it waited for the last of these rows
abbrev pub holds_at_last : List Row → Comparison AtomColumn → Bool
holds_at_last rows c = not (suc (last_atom c) == length rows) || satisfied rows c

-- rows for the first atoms of the rule, all different, that break it as far as they go
abbrev pub breaks_so_far : Denial → List Row → Bool
breaks_so_far rule rows = of_relations (take (length rows) rule.atoms) rows && (distinct same_row rows && all (holds_so_far rows) rule.comparisons)

-- places where such rows stand: a choice that breaks the rule can begin with these
abbrev pub begins : List (Option Row) → Denial → List ℕ → Bool
begins table rule places = all (λ p. is_held (slice_index_or table p None)) places && breaks_so_far rule (rows_at table places)

-- the rows are those at the places, and a choice that breaks the rule can begin with them
pub record Begun (table : List (Option Row)) (rule : Denial) (c : Chosen) : Type 0 where
  pub rows : rows_in c ≡ rows_at table (places_in c)
  pub begun : begins table rule (places_in c) ≡ true

-- one place more, or nothing when no choice that breaks the rule begins so
abbrev pub ChooseSays : List (Option Row) → Denial → Chosen → ℕ → Option Chosen → Type 0
ChooseSays table rule c place (Some next) = (places_in next ≡ places_in c ++ place ∷ []) × Begun table rule next
ChooseSays table rule c place None = begins table rule (places_in c ++ place ∷ []) ≡ false
