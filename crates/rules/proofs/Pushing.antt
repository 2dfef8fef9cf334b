-- One row more: when a choice that breaks the rule can begin so, and when not.
use Rattle.std.proofs.Common.{◌≡◌, ℕ, ◌<◌, Bool, true, false, eqb, List, [], ◌∷◌, ◌++◌, map, length, get_or, Some, None, Option, sym, ap, ◌∙◌, arith}
use Rattle.std.specs.Bool.{then_some}
use Rattle.std.proofs.lemmas.List.{map-append}
use Rattle.std.proofs.lemmas.Bool.{both_ways, eqb-true, eq-eqb}
use Rattle.ordered.specs.Lists.{items_in}
use Rattle.store.specs.Lists.{any, all}
use Rattle.store.specs.Places.{OnceIn}
use Rattle.store.specs.declared.row.Row.{Row}
use Rattle.store.proofs.Tests.{from_not}
use Rattle.rules.specs.Beginnings.{Chosen, places_in, rows_in, holds_at_last, begins, Begun, ChooseSays}
use Rattle.rules.specs.Listing.{rows_at}
use Rattle.rules.specs.Rules.{Denial}
use Rattle.rules.specs.declared.chosen.Pick.{Pick}
use Rattle.rules.proofs.Choosing.{rows_length}
use Rattle.rules.proofs.Beginning.{rows_push, begins_parts, push_parts, push_begins}

module _ {table : List (Option Row)} {rule : Denial} {c : Chosen} (so : Begun table rule c) (p : ℕ) (r : Row) (stands : get_or table p None ≡ Some r) where
  abbrev more : List ℕ
  more = places_in c ++ p ∷ []

  long : length (rows_at table (places_in c)) ≡ length (places_in c)
  long = rows_length table (places_in c) (begins_parts table rule (places_in c) so.begun).0

  atom_of : get_or rule.atoms (length (rows_at table (places_in c))) 0 ≡ get_or rule.atoms (length (places_in c)) 0
  atom_of = ap (λ n. get_or rule.atoms n 0) long

  pub other_relation : (r.relation ≡ get_or rule.atoms (length (places_in c)) 0 → ⊥) → begins table rule more ≡ false
  other_relation ne = from_not _ (λ h. ne (sym (sym atom_of ∙ eqb-true _ _ (push_parts table rule (places_in c) p r stands h).0)))

  pub chosen_already : any (eqb p) (places_in c) ≡ true → begins table rule more ≡ false
  chosen_already again = from_not _ (λ h. both_ways _ (push_parts table rule (places_in c) p r stands h).1 again)

  module _ (next : Chosen) (pushed : items_in next ≡ items_in c ++ record { place = p; row = r } ∷ []) where
    places : places_in next ≡ more
    places = ap (map (λ (x : Pick). x.place)) pushed ∙ map-append (λ (x : Pick). x.place) (items_in c) _

    rows_are : rows_in next ≡ rows_at table (places_in c) ++ r ∷ []
    rows_are = ap (map (λ (x : Pick). x.row)) pushed ∙ map-append (λ (x : Pick). x.row) (items_in c) _ ∙ ap (λ l. l ++ r ∷ []) so.rows

    fails_at_last : all (holds_at_last (rows_in next)) rule.comparisons ≡ false → begins table rule more ≡ false
    fails_at_last bad = from_not _ (λ h. both_ways _ bad (ap (λ l. all (holds_at_last l) rule.comparisons) rows_are ∙ (push_parts table rule (places_in c) p r stands h).2))

    module _ (once : OnceIn table) (room : length (places_in c) < length rule.atoms) (same : r.relation ≡ get_or rule.atoms (length (places_in c)) 0) (free : any (eqb p) (places_in c) ≡ false) where
      one_begun : all (holds_at_last (rows_in next)) rule.comparisons ≡ true → Begun table rule next
      one_begun last = record {
        rows = rows_are ∙ sym (ap (rows_at table) places ∙ rows_push table (places_in c) p r stands);
        begun = ap (begins table rule) places ∙ push_begins table rule (places_in c) p r stands once so.begun (omega (arith, long))
            (eq-eqb _ _ (atom_of ∙ sym same)) free (sym (ap (λ l. all (holds_at_last l) rule.comparisons) rows_are) ∙ last);
      }

      pub choose_says : (b : Bool) → b ≡ all (holds_at_last (rows_in next)) rule.comparisons → ChooseSays table rule c p (then_some b next)
      choose_says true last = (places, one_begun (sym last))
      choose_says false last = fails_at_last (sym last)
