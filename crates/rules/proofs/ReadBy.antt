-- The readings by the listed places are the readings by the rules.
use Rattle.std.proofs.Common.{◌≡◌, Bool, not, ◌&&◌, ◌||◌, List, map, Option, ap, subst}
use mathlib.Core.Path.{fun_ext}
use mathlib.Core.List.Memᴰ
use mathlib.Core.List.{Memᴰ}
use Rattle.store.specs.Lists.{all}
use Rattle.store.specs.declared.row.Row.{Row}
use Rattle.store.proofs.Tests.{same_tests, all_at, all_put}
use Rattle.rules.specs.Sets.{Rows, among, with}
use Rattle.rules.specs.Rules.{Denial, conflicts}
use Rattle.rules.specs.Readings.{clear}
use Rattle.store.specs.Held.{rows_of}
use Rattle.rules.specs.Listing.{Listed, Lists, rows_at, is_conflict}
use Rattle.rules.specs.Laws.{SameReadings}
use Rattle.rules.proofs.Members.{row_in}
use Rattle.rules.proofs.Breaking.{conflict_put, conflict_pick}
use Rattle.rules.proofs.Extension.{clear_at, clear_put}
use Rattle.rules.proofs.Placed.{places_of, rows_in_lem, placed, stands}

module _ (table : List (Option Row)) (rules : List Denial) (listed : List Listed) (ls : Lists (is_conflict table rules) listed) (S : Rows) where
  abbrev C : List (List Row)
  C = conflicts (rows_of table) rules

  abbrev rows : Listed → List Row
  rows c = rows_at table c.places

  pub same_clear : clear (map rows listed) S ≡ clear C S
  same_clear = same_tests (clear (map rows listed) S) (clear C S)
      (λ h. clear_put C S (λ c m w. let (a, b) = conflict_pick (rows_of table) rules c m in
      let (k, is) = placed table rules c a b in
      clear_at (map rows listed) S (Memᴰ.map rows (ls.full (record { places = places_of table c; rule = k }) is)) h
      (all_put S (rows_at table (places_of table c)) (λ r j. all_at S (rows_in_lem table c r j) w))))
      (λ h. clear_put (map rows listed) S (λ d m w. let (c, i, e) = Memᴰ.of_map rows listed m in
      let (d', s) = stands table rules c (ls.right c i) in
      clear_at C S (conflict_put (rows_of table) rules d' s.held s.breaking) h
      (all_put S d' (λ r j. all_at S (subst (λ x. Memᴰ r x) e (row_in r (rows c) (all_at (among (rows c)) j s.part))) w))))

pub same_readings : SameReadings
same_readings table rules listed ls R =
    ap (λ (f : Rows → Bool). f R && all (λ r. R r || not (f (with r R))) (rows_of table)) (fun_ext (same_clear table rules listed ls))
