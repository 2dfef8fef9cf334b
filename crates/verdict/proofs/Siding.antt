-- A way that is tried.
use Rattle.std.proofs.Common.{◌≡◌, ℕ, ◌≤◌, Bool, true, false, List, [], ◌∷◌, length, Some, None, Option, MatchBool, sym, refl, ap, ◌∙◌, subst}
use Rattle.std.proofs.lemmas.Bool.{and_parts, and_from}
use Rattle.std.proofs.lemmas.List.Folds.{list_all-append}
use Rattle.cores.specs.Backing.{backing, Works, NoneWorks}
use Rattle.cores.specs.Ways.{place_if, ins_of, outs_of, possible}
use Rattle.verdict.specs.LeafPlaces.{has_byte, leaves_have_bytes}
use Rattle.verdict.specs.Marking.{have_bytes}
use Rattle.verdict.specs.Trying.{Found, Lost, Kept}

-- the places of the rows that are in have mark bytes
place_byte : (asked : Bool) (leaf : Option ℕ) → has_byte leaf ≡ true → have_bytes (place_if asked leaf) ≡ true
place_byte asked None h = refl
place_byte true (Some p) h = and_from _ _ h refl
place_byte false (Some p) h = refl

pub ins_bytes : (leaves : List (Option ℕ)) (way : List Bool) → leaves_have_bytes leaves ≡ true → have_bytes (ins_of leaves way) ≡ true
ins_bytes [] way h = refl
ins_bytes (leaf ∷ leaves) [] h = refl
ins_bytes (leaf ∷ leaves) (says ∷ way) h =
    list_all-append _ (place_if says leaf) (ins_of leaves way) ∙ and_from _ _ (place_byte says leaf (and_parts _ _ h).0) (ins_bytes leaves way (and_parts _ _ h).1)

module _ (C : List (List ℕ)) (lost : List Bool → Bool) (leaves : List (Option ℕ)) (way : List Bool) (ins outs marks : List ℕ) (loses : lost way ≡ true) (may : possible leaves way ≡ true) (long : length leaves ≤ length way) where
  pub way_says : (told : Bool) → ins ≡ ins_of leaves way → outs ≡ outs_of leaves way → MatchBool told (Found C ins outs marks) (NoneWorks C ins outs) → MatchBool told (Lost C lost leaves marks) (Kept C lost leaves way)
  way_says true i o f = record {
    places = backing C ins outs f.choices;
    way = record {
      way = way;
      choices = f.choices;
      long = long;
      loses = loses;
      may = may;
      works = subst (λ x. Works C x (outs_of leaves way) f.choices) i (subst (λ x. Works C ins x f.choices) o f.works);
      is = ap (λ x. backing C x outs f.choices) i ∙ ap (λ x. backing C (ins_of leaves way) x f.choices) o;
    };
    shows = f.shows;
  }
  way_says false i o none = λ l m cs w. none cs (subst (λ x. Works C x outs cs) (sym i) (subst (λ x. Works C (ins_of leaves way) x cs) (sym o) w))
