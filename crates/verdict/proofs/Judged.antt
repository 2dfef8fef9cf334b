-- What is found over places is the verdict over rows.
use Rattle.std.proofs.Common.{◌≡◌, ℕ, zero, suc, ◌+◌, ◌<◌, ◌≤◌, Bool, true, false, not, nat_eq, ltb, List, [], ◌∷◌, map, length, get_or, None, Option, sym, refl, ap, ◌∙◌, subst, ⊎_elim, arith, length-take}
use mathlib.Core.List.{Memᴰ}
use Rattle.std.specs.List.{range_with_len}
use Rattle.std.specs.Prelude.{MatchBool}
use Rattle.std.proofs.lemmas.Bool.{both_ways, lt-ltb, eqb-true, cases_lt, cases_eq}
use Rattle.std.proofs.lemmas.List.{get_or_past}
use Rattle.std.proofs.lemmas.Simd.{map-map}
use Rattle.store.specs.Held.{rows_of}
use Rattle.store.specs.Lists.{all}
use Rattle.store.specs.Store.{Store, Kept}
use Rattle.store.specs.declared.row.Row.{Row}
use Rattle.store.proofs.Tests.{same_tests, all_at, all_put}
use Rattle.rules.specs.Choosing.{SameSet}
use Rattle.rules.specs.Listing.{Listed, rows_at, is_held}
use Rattle.rules.specs.Sets.{distinct}
use Rattle.rules.specs.Views.{listed_as}
use Rattle.rules.specs.declared.conflict.Conflict.{Conflict}
use Rattle.rules.proofs.Apart.{apart_put, apart_kept}
use Rattle.rules.proofs.Ascents.{place_in, place_has}
use Rattle.rules.proofs.Members.{kept_put, kept_pick}
use Rattle.plan.specs.Plans.{nodes_of}
use Rattle.plan.specs.Truths.{named_rows}
use Rattle.plan.specs.declared.plan.Plan.{Plan}
use Rattle.cores.specs.Backing.{one_of, Small, all_held, HeldIn}
use Rattle.cores.specs.Settling.{listed_places, Located, lost_by, NoWay}
use Rattle.cores.specs.Sure.{Sure, Core}
use Rattle.cores.proofs.Coring.{core_by_places}
use Rattle.cores.proofs.Few.{few_marked, different}
use Rattle.cores.proofs.Standing.{held_marked}
use Rattle.cores.proofs.Surely.{sure_by_places}
use Rattle.verdict.specs.Marking.{lists_of, have_bytes, is_in}
use Rattle.verdict.specs.Trying.{Lost}
use Rattle.verdict.specs.Verdicts.{marked_of, conflicts_of, CoreMarked}

-- the conflicts in memory are those that are listed
pub lists_are : (cs : List Conflict) (listed : List Listed) → map listed_as cs ≡ listed → lists_of cs ≡ listed_places listed
lists_are cs listed e = sym (map-map (λ c. c.places) listed_as cs) ∙ ap listed_places e

pub small_lists : (cs : List Conflict) → Small (lists_of cs)
small_lists [] c m = elim m [ ]
small_lists (x ∷ cs) c m = elim m [
  | Memᴰ.head e ↦ subst (λ t. length t ≤ 3) (sym e) (let s = x.few in omega (arith, length-take x.size x.places))
  | Memᴰ.tail n ↦ small_lists cs c n
]

-- a place that has a row is one of the places
inside : (table : List (Option Row)) (p : ℕ) → is_held (get_or table p None) ≡ true → p < length table
inside table p h = ⊎_elim (λ lt. lt) (λ ge. absurd (both_ways true (sym h ∙ ap is_held (get_or_past table p None ge)) refl)) (cases_lt p (length table))

module _ (table : List (Option Row)) (few : length table ≤ 256) where
  held_bytes : (places : List ℕ) → all_held table places ≡ true → have_bytes places ≡ true
  held_bytes places h = all_put (λ p. ltb p 256) places (λ p m. lt-ltb p 256 (let lt = inside table p (all_at (λ p. is_held (get_or table p None)) m h) in omega arith))

  pub all_bytes : (C : List (List ℕ)) → HeldIn table C → all have_bytes C ≡ true
  all_bytes C held = all_put have_bytes C (λ c m. held_bytes c (held c m))

-- the numbers from a on
in_range : (a n p : ℕ) → a ≤ p → p < a + n → Memᴰ p (range_with_len a n)
in_range a zero p low high = absurd (omega arith)
in_range a (suc n) p low high = ⊎_elim
    (λ (e : p ≡ a). Memᴰ.head e)
    (λ (ne : p ≡ a → ⊥). Memᴰ.tail (in_range (a + 1) n p (omega arith) (omega arith)))
    (cases_eq p a)

range_from : (a n p : ℕ) → Memᴰ p (range_with_len a n) → a ≤ p
range_from a zero p m = elim m [ ]
range_from a (suc n) p m = elim m [ Memᴰ.head e ↦ omega arith | Memᴰ.tail k ↦ let h = range_from (a + 1) n p k in omega arith ]

range_once : (a n : ℕ) → distinct nat_eq (range_with_len a n) ≡ true
range_once a zero = refl
range_once a (suc n) = apart_put nat_eq a (range_with_len (a + 1) n) (λ p m same. let h = range_from (a + 1) n p m in let e = eqb-true a p same in omega arith) (range_once (a + 1) n)

module _ (s : Store) (kept : Kept s) (cs : List Conflict) (listed : List Listed) (are : map listed_as cs ≡ listed) (held : HeldIn s.places (listed_places listed)) (plan : Plan) (columns : List ℕ) (leaves : List (Option ℕ)) (located : Located s (named_rows plan columns) leaves) where
  held_lists : HeldIn s.places (lists_of cs)
  held_lists = subst (HeldIn s.places) (sym (lists_are cs listed are)) held

  rows_are : map (rows_at s.places) (lists_of cs) ≡ conflicts_of s listed
  rows_are = ap (map (rows_at s.places)) (lists_are cs listed are) ∙ map-map (rows_at s.places) (λ (c : Listed). c.places) listed

  judge_sure : NoWay (lists_of cs) (lost_by plan columns) leaves → Sure (rows_of s.places) (conflicts_of s listed) (nodes_of plan) columns
  judge_sure none = subst (λ t. Sure (rows_of s.places) t (nodes_of plan) columns) rows_are (sure_by_places s kept.once (lists_of cs) held_lists plan columns leaves located none)

  module _ (six : length leaves ≤ 6) (marks : List ℕ) (lost : Lost (lists_of cs) (lost_by plan columns) leaves marks) where
    all_marked : all_held s.places lost.places ≡ true
    all_marked = ap (all_held s.places) lost.way.is ∙ held_marked s (lists_of cs) held_lists (named_rows plan columns) leaves located lost.way.way lost.way.choices

    same_marked : SameSet (marked_of marks (length s.places)) lost.places
    same_marked p = same_tests (one_of (marked_of marks (length s.places)) p) (one_of lost.places p)
        (λ h. sym (lost.shows p) ∙ (kept_pick (is_in marks) (range_with_len 0 (length s.places)) (place_in p (marked_of marks (length s.places)) h)).1)
        (λ h. place_has (kept_put (is_in marks) (in_range 0 (length s.places) p (omega arith) (let lt = inside s.places p (all_at (λ q. is_held (get_or s.places q None)) (place_in p lost.places h) all_marked) in omega arith)) (lost.shows p ∙ h)))

    once_marked : distinct nat_eq (marked_of marks (length s.places)) ≡ true
    once_marked = apart_kept nat_eq (is_in marks) (range_with_len 0 (length s.places)) (range_once 0 (length s.places))

    judge_few : length (marked_of marks (length s.places)) ≤ 12
    judge_few =
        let a = different (marked_of marks (length s.places)) lost.places once_marked (all_put (one_of lost.places) (marked_of marks (length s.places)) (λ p m. sym (same_marked p) ∙ place_has m)) in
        let b = few_marked (lists_of cs) (small_lists cs) leaves six lost.way.way lost.way.choices lost.way.works.real in
        omega (arith, ap length lost.way.is)

    judge_core : Core (rows_of s.places) (conflicts_of s listed) (nodes_of plan) columns (rows_at s.places (marked_of marks (length s.places)))
    judge_core = subst (λ t. Core (rows_of s.places) t (nodes_of plan) columns (rows_at s.places (marked_of marks (length s.places)))) rows_are
        (core_by_places s kept.once (lists_of cs) held_lists (small_lists cs) plan columns leaves located lost.places lost.way (marked_of marks (length s.places)) same_marked once_marked)

  -- what the search tells decides
  pub judged : length leaves ≤ 6 → (marks : List ℕ) (found : Bool) → MatchBool found (Lost (lists_of cs) (lost_by plan columns) leaves marks) (NoWay (lists_of cs) (lost_by plan columns) leaves) →
      MatchBool (not found) (Sure (rows_of s.places) (conflicts_of s listed) (nodes_of plan) columns) (CoreMarked s listed (nodes_of plan) columns marks)
  judged six marks true lost = record { few = judge_few six marks lost; core = judge_core six marks lost }
  judged six marks false none = judge_sure none
