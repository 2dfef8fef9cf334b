-- Where no way that loses the line can be, every reading has it: a reading shows of its own way that it can be.
use Rattle.std.proofs.Common.{◌≡◌, ℕ, Bool, true, false, not, ◌||◌, List, [], map, get_or, filter, Some, None, Option, sym, ap, ◌∙◌, subst, inl, inr}
use mathlib.Core.List.{Memᴰ}
use Rattle.std.proofs.lemmas.List.{length-map}
use Rattle.std.proofs.lemmas.Bool.{both_ways, not-true, not-false, and_parts, or_cases, cases_Bool}
use Rattle.store.specs.Held.{rows_of}
use Rattle.store.specs.Lists.{all}
use Rattle.store.specs.Places.{OnceIn}
use Rattle.store.specs.declared.row.Row.{Row}
use Rattle.store.proofs.Tests.{from_not, all_at, all_put}
use Rattle.plan.specs.Truths.{plan_truth}
use Rattle.plan.proofs.Answering.{by_names}
use Rattle.rules.specs.Listing.{rows_at}
use Rattle.rules.specs.Readings.{clear, reading}
use Rattle.rules.specs.Sets.{Rows, with}
use Rattle.rules.proofs.Ascents.{place_has}
use Rattle.rules.proofs.Holding.{row_at}
use Rattle.rules.proofs.Members.{row_in}
use Rattle.cores.specs.Backing.{one_of, clear_places, HeldIn, without}
use Rattle.cores.specs.Settling.{lost_by}
use Rattle.cores.specs.Laws.{SureByPlaces}
use Rattle.cores.proofs.Sets.{clear_no, whole_in, number_of}
use Rattle.cores.proofs.Others.{without_pick}
use Rattle.cores.proofs.Deciding.{say_of, way_in}
use Rattle.cores.proofs.Picking.{Pick, possible_in, outs_in, works_in}
use Rattle.cores.proofs.OnPlaces.{say_row, on_places, clear_rows, with_place}
use Rattle.cores.proofs.Standing.{leaf_stands}
use Rattle.cores.proofs.Telling.{tells_itself}

module _ (table : List (Option Row)) (once : OnceIn table) (C : List (List ℕ)) (held : HeldIn table C) (R : Rows) (ok : reading (rows_of table) (map (rows_at table) C) R ≡ true) where
  abbrev On : ℕ → Bool
  On = on_places table R

  abbrev Full : Row → Bool
  Full row = R row || not (clear (map (rows_at table) C) (with row R))

  parts : (clear (map (rows_at table) C) R ≡ true) × (all Full (rows_of table) ≡ true)
  parts = and_parts (clear (map (rows_at table) C) R) (all Full (rows_of table)) ok

  pub clear_on : clear_places C On ≡ true
  clear_on = sym (clear_rows table R C held) ∙ parts.0

  -- with a row that is out, some conflict would be whole
  not_clear : (o : ℕ) (row : Row) → get_or table o None ≡ Some row → not (On o) ≡ true → clear_places C (on_places table (with row R)) ≡ false
  not_clear o row e out =
      sym (clear_rows table (with row R) C held) ∙
      elim (or_cases (R row) (not (clear (map (rows_at table) C) (with row R))) (all_at Full (row_in row (rows_of table) (row_at table row o e)) parts.1)) [
        | inl is-in ↦ absurd (both_ways (On o) (not-true (On o) out) (ap (say_row R) e ∙ is-in))
        | inr k ↦ not-true (clear (map (rows_at table) C) (with row R)) k
      ]

  -- and that conflict has the row: the reading includes no whole one
  has_place : (o : ℕ) (row : Row) → get_or table o None ≡ Some row → (c : List ℕ) → Memᴰ c C → all (on_places table (with row R)) c ≡ true → one_of c o ≡ true
  has_place o row e c m whole = elim (cases_Bool (one_of c o)) [
    | inl k ↦ k
    | inr none ↦ absurd (clear_no C On m clear_on (all_put On c (λ q n. with_place table once R o row e q (all_at (on_places table (with row R)) n whole) (λ f. both_ways (one_of c o) none (place_has (subst (λ x. Memᴰ x c) f n))))))
  ]

  pub pick : (o : ℕ) (row : Row) → get_or table o None ≡ Some row → not (On o) ≡ true → Pick C On o
  pick o row e out =
      let (c, m, whole) = whole_in C (on_places table (with row R)) (not_clear o row e out) in
      let (k, h, is) = number_of [] m in
      record {
        at = k;
        real = (h, ap (λ x. one_of x o) is ∙ has_place o row e c m whole);
        within = λ q n. let (i, ne) = without_pick o c (subst (λ x. Memᴰ q (without o x)) is n) in with_place table once R o row e q (all_at (on_places table (with row R)) i whole) ne;
      }

pub sure_by_places : SureByPlaces
sure_by_places s once C held plan columns leaves at none R ok =
    let on : ℕ → Bool = on_places s.places R in
    let way : List Bool = way_in on leaves in
    let keeps : lost_by plan columns way ≡ false = from_not (lost_by plan columns way) (λ lost.
    let (choices, works) = works_in C on (clear_on s.places once C held R ok) leaves (λ o m.
    let (out, leaf) = outs_in on leaves o m in
    let (row, e) = leaf_stands s _ leaves at o leaf in
    pick s.places once C held R ok o row e out) in
    none way (length-map leaves (say_of on)) lost (possible_in on leaves) choices works) in
    by_names plan columns (filter R (rows_of s.places)) way (tells_itself s R plan columns leaves at) ∙ not-false (plan_truth plan columns way) keeps
