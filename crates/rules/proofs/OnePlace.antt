-- The conflicts with and without the row at one place.
use Rattle.std.proofs.Common.{◌≡◌, ℕ, Bool, true, false, not, ◌&&◌, eqb, List, [], ◌∷◌, ◌++◌, get_or, None, Option, sym, refl, ap, ◌∙◌, ap₂, arith}
use mathlib.Core.List.{Memᴰ}
use Rattle.std.proofs.lemmas.Bool.{both_ways, and_parts, and_from, not-true, not_from_false, eqb-true, eq-eqb}
use Rattle.std.proofs.lemmas.Bool.Decides.{nat_tests}
use Rattle.store.specs.Lists.{any, all}
use Rattle.store.specs.declared.row.Row.{Row}
use Rattle.store.proofs.Tests.{from_not, same_tests, any_pick, any_put, all_at}
use Rattle.rules.specs.Sets.{among}
use Rattle.rules.specs.Rules.{Denial, conflicts}
use Rattle.store.specs.Held.{given}
use Rattle.rules.specs.Listing.{rows_at, is_held, ascending, forbids, first_is, Listed, is_conflict, touches, AlikeBut, Lists}
use Rattle.rules.specs.Choosing.{up_to}
use Rattle.rules.specs.Laws.{OnePlaceLess, Strikes, PutStarts, PutUndone}
use Rattle.rules.proofs.Listings.{lists_like, lists_kept, lists_narrowed}

-- the parts of a conflict
module _ (table : List (Option Row)) (rules : List Denial) (c : Listed) where
  abbrev held : Bool
  held = all (λ p. is_held (get_or table p None)) c.places

  abbrev first : Bool
  first = first_is (forbids table c.places) rules c.rule

  pub conflict_parts : is_conflict table rules c ≡ true → (ascending c.places ≡ true) × (held ≡ true) × (first ≡ true)
  conflict_parts h = (grind arith, grind arith, grind arith)

  pub conflict_from : ascending c.places ≡ true → held ≡ true → first ≡ true → is_conflict table rules c ≡ true
  conflict_from a b d = grind arith

-- a conflict is about its own places
module _ (a b : List (Option Row)) where
  abbrev Alike : List ℕ → Type 0
  Alike places = (p : ℕ) → Memᴰ p places → get_or a p None ≡ get_or b p None

  rows_alike : (places : List ℕ) → Alike places → rows_at a places ≡ rows_at b places
  rows_alike [] h = refl
  rows_alike (p ∷ places) h = ap₂ ◌++◌ (ap given (h p (Memᴰ.head refl))) (rows_alike places (λ q m. h q (Memᴰ.tail m)))

  held_alike : (places : List ℕ) → Alike places → all (λ p. is_held (get_or a p None)) places ≡ all (λ p. is_held (get_or b p None)) places
  held_alike [] h = refl
  held_alike (p ∷ places) h = ap₂ ◌&&◌ (ap is_held (h p (Memᴰ.head refl))) (held_alike places (λ q m. h q (Memᴰ.tail m)))

  conflict_alike : (rules : List Denial) (c : Listed) → Alike c.places → is_conflict a rules c ≡ is_conflict b rules c
  conflict_alike rules c h =
      ap₂ (λ held rows. ascending c.places && (held && first_is (λ rule. any (λ chosen. all (among chosen) rows) (conflicts rows (rule ∷ []))) rules c.rule))
      (held_alike c.places h) (rows_alike c.places h)

module _ (less more : List (Option Row)) (p : ℕ) (alike : AlikeBut p more less) (none : get_or less p None ≡ None) (rules : List Denial) (c : Listed) where
  -- a conflict that does not touch p is one with and without the row there
  apart : touches p c ≡ false → is_conflict more rules c ≡ is_conflict less rules c
  apart h = conflict_alike more less rules c (λ q m. alike q (λ e. both_ways (touches p c) h (any_put (eqb p) m (eq-eqb p q (sym e)))))

  -- no conflict touches an empty place
  untouched : is_conflict less rules c ≡ true → touches p c ≡ false
  untouched h = from_not (touches p c) (λ t. let (q, m, e) = any_pick (eqb p) c.places t in
      both_ways (is_held (get_or less q None)) (ap is_held (ap (λ k. get_or less k None) (sym (eqb-true p q e)) ∙ none))
      (all_at (λ q. is_held (get_or less q None)) m (conflict_parts less rules c h).1))

pub one_place_less : OnePlaceLess
one_place_less less more p alike none rules c = same_tests (is_conflict less rules c) (is_conflict more rules c && not (touches p c))
    (λ h. let t = untouched less more p alike none rules c h in
    and_from (is_conflict more rules c) (not (touches p c)) (apart less more p alike none rules c t ∙ h) (not_from_false (touches p c) t))
    (λ h. let (k, n) = and_parts (is_conflict more rules c) (not (touches p c)) h in
    sym (apart less more p alike none rules c (not-true (touches p c) n)) ∙ k)

-- a list of the conflicts without the row at p is one of those with it that do not touch p, and the other way round
pub place_known : (less more : List (Option Row)) (p : ℕ) → AlikeBut p more less → get_or less p None ≡ None → (rules : List Denial) (listed : List Listed) →
    Lists (is_conflict less rules) listed → Lists (λ c. is_conflict more rules c && not (touches p c)) listed
place_known less more p alike none rules listed ls =
    lists_like (is_conflict less rules) (λ c. is_conflict more rules c && not (touches p c)) (one_place_less less more p alike none rules) listed ls

pub place_back : (less more : List (Option Row)) (p : ℕ) → AlikeBut p more less → get_or less p None ≡ None → (rules : List Denial) (listed : List Listed) →
    Lists (λ c. is_conflict more rules c && not (touches p c)) listed → Lists (is_conflict less rules) listed
place_back less more p alike none rules listed ls =
    lists_like (λ c. is_conflict more rules c && not (touches p c)) (is_conflict less rules) (λ c. sym (one_place_less less more p alike none rules c)) listed ls

pub strikes : Strikes
strikes less more p alike none rules listed ls =
    lists_narrowed (is_conflict more rules) (λ c. not (touches p c)) (is_conflict less rules) (one_place_less less more p alike none rules) listed ls

pub put_undone : PutUndone
put_undone less more p alike none rules k listed so =
    lists_kept (is_conflict more rules) (λ c. not (touches p c)) (is_conflict less rules) (one_place_less less more p alike none rules) listed
    (record { right = so.right; full = λ c h. let e = one_place_less less more p alike none rules c in so.full c (grind arith); once = so.once })

pub put_starts : PutStarts
put_starts less more p alike none rules listed ls =
    lists_like (is_conflict less rules) (up_to more rules (λ places. not (any (eqb p) places)) 0)
    (λ c. let e = one_place_less less more p alike none rules c in grind (arith, nat_tests)) listed ls
