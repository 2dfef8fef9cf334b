-- A listed conflict has one to three places.
use Rattle.std.proofs.Common.{◌≡◌, ℕ, ◌<◌, ◌≤◌, true, false, eqb, List, [], ◌∷◌, map, length, take, Option, sym, refl, ◌∙◌, subst, arith}
use mathlib.Core.List.Memᴰ
use mathlib.Core.List.{Memᴰ}
use Rattle.std.proofs.lemmas.List.{length-take}
use Rattle.std.proofs.lemmas.Bool.{both_ways, or_left, eq-eqb}
use Rattle.ordered.specs.Lists.{items_in}
use Rattle.store.specs.Lists.{any}
use Rattle.store.specs.Places.{OnceIn}
use Rattle.store.specs.declared.row.Row.{Row}
use Rattle.store.proofs.Tests.{any_pick}
use Rattle.rules.specs.Choosing.{SameSet}
use Rattle.rules.specs.Entries.{listing}
use Rattle.rules.specs.Listing.{Listed, forbids, is_conflict}
use Rattle.rules.specs.Rules.{denial}
use Rattle.rules.specs.Views.{listed_as}
use Rattle.rules.specs.declared.list.Conflicts.{Conflicts}
use Rattle.rules.specs.declared.rule.Rule.{Rule}
use Rattle.rules.proofs.Choosing.{choice_apart, find_choice}
use Rattle.rules.proofs.Firsts.{first_any}
use Rattle.rules.proofs.Naming.{has_atoms}
use Rattle.rules.proofs.OnePlace.{conflict_parts}

pub at_most_three : (l : Conflicts) (c : Listed) → Memᴰ c (listing l) → length c.places ≤ 3
at_most_three l c m = let (x, i, e) = Memᴰ.of_map listed_as (items_in l.items) m in
    subst (λ (d : Listed). length d.places ≤ 3) e (omega (arith, length-take x.size x.places, x.few))

same_some : (a b : List ℕ) → SameSet a b → 0 < length a → 0 < length b
same_some [] b same some = absurd (omega arith)
same_some (x ∷ a) [] same some = absurd (both_ways false refl (sym (same x) ∙ or_left (eqb x x) (any (eqb x) a) (eq-eqb x x refl)))
same_some (x ∷ a) (y ∷ b) same some = omega arith

pub at_least_one : (table : List (Option Row)) → OnceIn table → (rules : List Rule) (c : Listed) → is_conflict table (map denial rules) c ≡ true → 0 < length c.places
at_least_one table once rules c is =
    let (up, held, first) = conflict_parts table (map denial rules) c is in
    let (rule, m, forbid) = any_pick (forbids table c.places) (map denial rules) (first_any (forbids table c.places) (map denial rules) c.rule first) in
    let (chosen, choice, same) = find_choice table once rule c.places held forbid in
    same_some chosen c.places same (omega (arith, (choice_apart table rule chosen choice).0, has_atoms rules rule m))
