-- A search that goes through the rules in turn, and enters the places of each choice that breaks the rule.
use Rattle.std.proofs.Common.{◌≡◌, ℕ, ◌+◌, ◌<◌, ◌≤◌, Bool, true, false, ◌||◌, ltb, List, [], ◌∷◌, ◌++◌, length, get_or, None, Option, sym, refl, subst, inl, inr, arith}
use mathlib.Core.List.{Memᴰ}
use Rattle.std.proofs.lemmas.Bool.{both_ways, and_parts, and_from, or_cases, or_left, or_right, cases_Bool, cases_lt, lt-ltb, ltb-true}
use Rattle.std.proofs.lemmas.Bool.Decides.{nat_tests}
use Rattle.std.proofs.lemmas.List.Folds.{list_any_at}
use Rattle.store.specs.Lists.{all}
use Rattle.store.specs.Places.{OnceIn}
use Rattle.store.specs.declared.row.Row.{Row}
use Rattle.store.proofs.Tests.{same_tests, all_at, all_put}
use Rattle.rules.specs.Rules.{Denial, AtMost}
use Rattle.store.specs.Held.{rows_of}
use Rattle.rules.specs.Listing.{Listed, is_held, ascending, forbids, first_is, is_conflict}
use Rattle.rules.specs.Choosing.{SameSet, Choice, Between, up_to}
use Rattle.rules.specs.Laws.{RoundStarts, Enters, Round, RoundEnds}
use Rattle.rules.proofs.Ascents.{member_of, one_order}
use Rattle.rules.proofs.Firsts.{first_put, first_at, first_least, first_one}
use Rattle.rules.proofs.Listings.{lists_like, between_entered}
use Rattle.rules.proofs.OnePlace.{conflict_parts, conflict_from}
use Rattle.rules.proofs.Choosing.{choice_forbids, find_choice}
use Rattle.rules.proofs.Counting.{one_too_many}

-- a conflict that one of the first k rules makes
made : (table : List (Option Row)) (rules : List Denial) (known : List ℕ → Bool) (k : ℕ) (c : Listed) → is_conflict table rules c ≡ true → c.rule < k → up_to table rules known k c ≡ true
made table rules known k c is l =
    and_from (is_conflict table rules c) (known c.places || ltb c.rule k) is (or_right (known c.places) (ltb c.rule k) (lt-ltb c.rule k l))

pub up_to_is : (table : List (Option Row)) (rules : List Denial) (known : List ℕ → Bool) (k : ℕ) (c : Listed) → up_to table rules known k c ≡ true → is_conflict table rules c ≡ true
up_to_is table rules known k c h = (and_parts (is_conflict table rules c) (known c.places || ltb c.rule k) h).0

pub round_starts : RoundStarts
round_starts table rules known k listed ls = record {
  right = λ c m. let h = ls.right c m in grind (arith, nat_tests);
  full = ls.full;
  once = ls.once;
}

-- conflicts at the same places are one
pub one_conflict : (table : List (Option Row)) (rules : List Denial) (a b : Listed) → is_conflict table rules a ≡ true → is_conflict table rules b ≡ true → SameSet a.places b.places → a ≡ b
one_conflict table rules a b h k same =
    let (up, ah, af) = conflict_parts table rules a h in
    let (vp, bh, bf) = conflict_parts table rules b k in
    let p : a.places ≡ b.places = one_order a.places b.places up vp same in
    let q : a.rule ≡ b.rule = first_one (forbids table b.places) rules a.rule b.rule (record { atoms = []; comparisons = [] }) (subst (λ x. first_is (forbids table x) rules a.rule ≡ true) p af) bf in
    λ i. record { places = p i; rule = q i }

pub enters : Enters
enters table rules known k listed full lt other chosen places c up same fresh free =
    let held : all (λ p. is_held (get_or table p None)) places ≡ true =
    all_put (λ p. is_held (get_or table p None)) places (λ p m. all_at (λ p. is_held (get_or table p None)) (member_of places chosen (λ q. sym (same q)) p m) c.held) in
    let forbid : forbids table places (get_or rules k other) ≡ true = choice_forbids table (get_or rules k other) chosen places same c.broken in
    let (j, first) = first_put (forbids table places) rules (list_any_at (forbids table places) rules k other lt forbid) in
    let low : j ≤ k = first_least (forbids table places) rules j k other first lt forbid in
    let d : Listed = record { places = places; rule = j } in
    let is : is_conflict table rules d ≡ true = conflict_from table rules d up held first in
    elim (cases_lt j k) [
      | inl l ↦ absurd (free d (full d (made table rules known k d is l)) refl)
      | inr g ↦ let e : j ≡ k = omega arith in
          made table rules known (k + 1) (record { places = places; rule = k }) (subst (λ x. is_conflict table rules (record { places = places; rule = x }) ≡ true) e is) (omega arith)
    ]

-- what a search does on its way: enter the places of a choice, find that no more fit, or give up
module _ (table : List (Option Row)) (rules : List Denial) (known : List ℕ → Bool) (k : ℕ) where
  abbrev OnWay : List Listed → Type 0
  OnWay listed = Between (up_to table rules known k) (up_to table rules known (k + 1)) listed

  pub gives_up : (listed : List Listed) → OnWay listed → Between (up_to table rules known k) (is_conflict table rules) listed
  gives_up listed so = record { right = λ c m. up_to_is table rules known (k + 1) c (so.right c m); full = so.full; once = so.once }

  module _ (lt : k < length rules) (other : Denial) (chosen places : List ℕ) (c : Choice table (get_or rules k other) chosen) (up : ascending places ≡ true) (same : SameSet chosen places) (fresh : known places ≡ false) where
    pub goes_on : (xs ys : List Listed) → OnWay (xs ++ ys) → ((b : Listed) → Memᴰ b (xs ++ ys) → b.places ≡ places → ⊥) → OnWay (xs ++ (record { places = places; rule = k } ∷ ys))
    goes_on xs ys so free = between_entered (up_to table rules known k) (up_to table rules known (k + 1)) (record { places = places; rule = k }) xs ys so
        (enters table rules known k (xs ++ ys) so.full lt other chosen places c up same fresh free) free

    pub stops : OnceIn table → (listed : List Listed) → OnWay listed → ((b : Listed) → Memᴰ b listed → b.places ≡ places → ⊥) → AtMost (length listed) (rows_of table) rules → ⊥
    stops once listed so free = let is = enters table rules known k listed so.full lt other chosen places c up same fresh free in
        one_too_many table once rules listed (gives_up listed so).right so.once (record { places = places; rule = k }) (up_to_is table rules known (k + 1) (record { places = places; rule = k }) is) free

pub round : Round
round table once rules known k listed so other new = record { right = so.right; once = so.once; full = full }
  where
    late : (c : Listed) → is_conflict table rules c ≡ true → known c.places ≡ false → c.rule ≡ k → Memᴰ c listed
    late c is fresh e =
        let (up, held, first) = conflict_parts table rules c is in
        let (lt, forbid) = first_at (forbids table c.places) rules c.rule other first in
        let (chosen, ch, same) = find_choice table once (get_or rules k other) c.places held (subst (λ n. forbids table c.places (get_or rules n other) ≡ true) e forbid) in
        let (d, m, alike) = new chosen c.places ch same fresh in
        subst (λ x. Memᴰ x listed) (one_conflict table rules d c (up_to_is table rules known (k + 1) d (so.right d m)) is alike) m

    full : (c : Listed) → up_to table rules known (k + 1) c ≡ true → Memᴰ c listed
    full c h = let (is, t) = and_parts (is_conflict table rules c) (known c.places || ltb c.rule (k + 1)) h in
        elim (cases_Bool (known c.places)) [
          | inl e ↦ so.full c (and_from (is_conflict table rules c) (known c.places || ltb c.rule k) is (or_left (known c.places) (ltb c.rule k) e))
          | inr e ↦ elim (cases_lt c.rule k) [
            | inl l ↦ so.full c (made table rules known k c is l)
            | inr g ↦ elim (or_cases (known c.places) (ltb c.rule (k + 1)) t) [
              | inl y ↦ absurd (both_ways (known c.places) e y)
              | inr y ↦ late c is e (omega (arith, ltb-true c.rule (k + 1) y))
            ]
          ]
        ]

pub round_ends : RoundEnds
round_ends table rules known k all_done listed ls = lists_like (up_to table rules known k) (is_conflict table rules)
    (λ c. same_tests (up_to table rules known k c) (is_conflict table rules c)
    (up_to_is table rules known k c)
    (λ is. let (lt, forbid) = first_at (forbids table c.places) rules c.rule (record { atoms = []; comparisons = [] }) (conflict_parts table rules c is).2 in
    made table rules known k c is (omega arith)))
    listed ls
