-- The rows at some places are forbidden just where the places are those of a choice that breaks the rule.
use Rattle.std.proofs.Common.{◌≡◌, ℕ, suc, Bool, true, false, eqb, List, [], ◌∷◌, ◌++◌, length, get_or, is_some, Some, None, Option, sym, refl, ap, ◌∙◌, subst, ap₂, inl, inr}
use mathlib.Core.List.Memᴰ
use mathlib.Core.List.{Memᴰ}
use Rattle.std.proofs.lemmas.Bool.{both_ways, and_parts, and_from, or_left, eqb-true}
use Rattle.store.specs.Lists.{all}
use Rattle.store.specs.Places.{OnceIn}
use Rattle.store.specs.Rows.{same_row}
use Rattle.store.specs.declared.row.Row.{Row}
use Rattle.store.proofs.Alike.{same_row_refl}
use Rattle.store.proofs.Tests.{any_pick, any_put, all_at, all_put}
use Rattle.rules.specs.Sets.{among, distinct}
use Rattle.rules.specs.Rules.{Denial, of_relations, breaks, conflicts}
use Rattle.store.specs.Held.{given}
use Rattle.rules.specs.Listing.{rows_at, is_held, forbids}
use Rattle.rules.specs.Choosing.{SameSet, Choice}
use Rattle.rules.specs.Laws.{ByChoice, ChoiceApart}
use Rattle.rules.proofs.Members.{joined_put, joined_pick, row_in, row_has}
use Rattle.rules.proofs.Apart.{apart_first, apart_rest, apart_put}
use Rattle.rules.proofs.Ascents.{same_set, member_of}
use Rattle.rules.proofs.Breaking.{breaks_parts, conflict_put, conflict_pick, alone}

given_pick : {r : Row} (o : Option Row) → Memᴰ r (given o) → o ≡ Some r
given_pick (Some x) (Memᴰ.head e) = ap Some (sym e)
given_pick (Some x) (Memᴰ.tail n) = elim n [ ]
given_pick None m = elim m [ ]

given_put : (r : Row) (o : Option Row) → o ≡ Some r → Memᴰ r (given o)
given_put r o e = subst (λ x. Memᴰ r (given x)) (sym e) (Memᴰ.head refl)

pub held_row : (o : Option Row) → is_held o ≡ true → (r : Row) × (o ≡ Some r)
held_row (Some r) h = (r, refl)
held_row None h = absurd (both_ways false refl h)

module _ (table : List (Option Row)) where
  abbrev row_at : ℕ → List Row
  row_at p = given (get_or table p None)

  abbrev held_at : ℕ → Bool
  held_at p = is_held (get_or table p None)

  pub at_pick : {r : Row} (places : List ℕ) → Memᴰ r (rows_at table places) → (p : ℕ) × Memᴰ p places × (get_or table p None ≡ Some r)
  at_pick places m = let (p, n, g) = joined_pick row_at places m in (p, n, given_pick (get_or table p None) g)

  pub at_put : {p : ℕ} {places : List ℕ} (r : Row) → Memᴰ p places → get_or table p None ≡ Some r → Memᴰ r (rows_at table places)
  at_put {p} r m e = joined_put row_at m (given_put r (get_or table p None) e)

  -- places with the same members have the same rows
  rows_same : (a b : List ℕ) → ((p : ℕ) → Memᴰ p a → Memᴰ p b) → (r : Row) → Memᴰ r (rows_at table a) → Memᴰ r (rows_at table b)
  rows_same a b sub r m = let (p, n, e) = at_pick a m in at_put r (sub p n) e

  -- and where no row stands twice, places with the same rows have the same members
  pub places_same : OnceIn table → (a b : List ℕ) → all held_at a ≡ true → ((r : Row) → Memᴰ r (rows_at table a) → Memᴰ r (rows_at table b)) → (p : ℕ) → Memᴰ p a → Memᴰ p b
  places_same once a b held sub p m =
      let (r, e) = held_row (get_or table p None) (all_at held_at m held) in
      let (q, n, f) = at_pick b (sub r (at_put r m e)) in
      subst (λ x. Memᴰ x b) (sym (once p q (ap is_some e, e ∙ sym f))) n

  pub choice_forbids : (rule : Denial) (chosen places : List ℕ) → SameSet chosen places → breaks rule (rows_at table chosen) ≡ true → forbids table places rule ≡ true
  choice_forbids rule chosen places same b =
      let rows : List Row = rows_at table places in
      let d : List Row = rows_at table chosen in
      any_put (λ d. all (among d) rows)
      (conflict_put rows (rule ∷ []) d (all_put (among rows) d (λ r m. row_has (rows_same chosen places (member_of chosen places same) r m))) (or_left (breaks rule d) false b))
      (all_put (among d) rows (λ r m. row_has (rows_same places chosen (member_of places chosen (λ p. sym (same p))) r m)))

  -- rows that stand at some places are the rows at a choice of these
  stand_at : (places : List ℕ) (d : List Row) → all (among (rows_at table places)) d ≡ true → (chosen : List ℕ) × (rows_at table chosen ≡ d) × (all held_at chosen ≡ true) × ((p : ℕ) → Memᴰ p chosen → Memᴰ p places)
  stand_at places [] h = ([], refl, refl, λ p m. absurd (Memᴰ.not-nil m))
  stand_at places (r ∷ d) h =
      let (a, b) = and_parts (among (rows_at table places) r) (all (among (rows_at table places)) d) h in
      let (p, m, e) = at_pick places (row_in r (rows_at table places) a) in
      let (chosen, f, k, sub) = stand_at places d b in (
        p ∷ chosen,
        ap₂ ◌++◌ (ap given e) f,
        and_from (held_at p) (all held_at chosen) (ap is_held e) k,
        λ q n. elim (Memᴰ.cases_cons n) [ inl s ↦ subst (λ x. Memᴰ x places) (sym s) m | inr i ↦ sub q i ],
      )

  pub find_choice : OnceIn table → (rule : Denial) (places : List ℕ) → all held_at places ≡ true → forbids table places rule ≡ true → (chosen : List ℕ) × Choice table rule chosen × SameSet chosen places
  find_choice once rule places held h =
      let rows : List Row = rows_at table places in
      let (d, m, w) = any_pick (λ d. all (among d) rows) (conflicts rows (rule ∷ [])) h in
      let (a, b) = conflict_pick rows (rule ∷ []) d m in
      let (chosen, f, k, sub) = stand_at places d a in (
        chosen,
        record { held = k; broken = subst (λ x. breaks rule x ≡ true) (sym f) (alone rule d b) },
        same_set chosen places sub (places_same once places chosen held (λ r n. subst (λ x. Memᴰ r x) (sym f) (row_in r d (all_at (among d) n w)))),
      )

  -- each place adds its row
  pub rows_length : (chosen : List ℕ) → all held_at chosen ≡ true → length (rows_at table chosen) ≡ length chosen
  rows_length [] h = refl
  rows_length (p ∷ chosen) h =
      let (a, b) = and_parts (held_at p) (all held_at chosen) h in
      let (r, e) = held_row (get_or table p None) a in
      ap (λ o. length (given o ++ rows_at table chosen)) e ∙ ap suc (rows_length chosen b)

  apart_places : (chosen : List ℕ) → all held_at chosen ≡ true → distinct same_row (rows_at table chosen) ≡ true → distinct eqb chosen ≡ true
  apart_places [] h k = refl
  apart_places (p ∷ chosen) h k =
      let (a, b) = and_parts (held_at p) (all held_at chosen) h in
      let (r, e) = held_row (get_or table p None) a in
      let rest : List Row = rows_at table chosen in
      let k' : distinct same_row (r ∷ rest) ≡ true = subst (λ o. distinct same_row (given o ++ rest) ≡ true) e k in
      apart_put eqb p chosen (λ q m s. apart_first same_row r rest k' (at_put r m (ap (λ x. get_or table x None) (sym (eqb-true p q s)) ∙ e)) (same_row_refl r))
      (apart_places chosen b (apart_rest same_row r rest k'))

one_each : (atoms : List ℕ) (rows : List Row) → of_relations atoms rows ≡ true → length rows ≡ length atoms
one_each [] [] h = refl
one_each [] (r ∷ rows) h = absurd (both_ways false refl h)
one_each (a ∷ atoms) [] h = absurd (both_ways false refl h)
one_each (a ∷ atoms) (r ∷ rows) h = ap suc (one_each atoms rows (and_parts (eqb a r.relation) (of_relations atoms rows) h).1)

pub by_choice : ByChoice
by_choice table once rule places held = (
  find_choice table once rule places held,
  λ (chosen, c, same). choice_forbids table rule chosen places same c.broken,
)

pub choice_apart : ChoiceApart
choice_apart table rule chosen c =
    let (a, b) = breaks_parts rule (rows_at table chosen) c.broken in
    (sym (rows_length table chosen c.held) ∙ one_each rule.atoms (rows_at table chosen) a, apart_places table chosen c.held b)
