-- Where some way that loses the line can be, the rows at the places that are marked are a core.
use Rattle.std.proofs.Common.{◌≡◌, ℕ, ◌≤◌, Bool, true, false, not, ◌||◌, List, map, length, get_or, filter, None, Option, sym, ap, ◌∙◌, subst, arith}
use mathlib.Core.List.Memᴰ
use mathlib.Core.List.{Memᴰ}
use Rattle.std.proofs.lemmas.Bool.{not-true, and_parts}
use Rattle.store.specs.Held.{rows_of}
use Rattle.store.specs.Lists.{all}
use Rattle.store.specs.Places.{OnceIn}
use Rattle.store.specs.Store.{Store}
use Rattle.store.specs.declared.row.Row.{Row}
use Rattle.store.proofs.Tests.{all_at, all_put}
use Rattle.plan.specs.Plans.{nodes_of}
use Rattle.plan.specs.Truths.{named_rows, plan_truth}
use Rattle.plan.specs.Answers.{is_answer}
use Rattle.plan.specs.declared.plan.Plan.{Plan}
use Rattle.plan.proofs.Answering.{by_names}
use Rattle.plan.proofs.PlanLeaves.{leaves_few, named_long}
use Rattle.rules.specs.Choosing.{SameSet}
use Rattle.rules.specs.Listing.{rows_at, is_held}
use Rattle.rules.specs.Readings.{clear}
use Rattle.rules.specs.Sets.{Rows, among, with}
use Rattle.rules.proofs.Ascents.{place_in, place_has, member_of}
use Rattle.rules.proofs.Choosing.{at_put, held_row}
use Rattle.rules.proofs.Extension.{extension}
use Rattle.rules.proofs.Members.{row_has}
use Rattle.cores.specs.Ways.{ins_of, outs_of}
use Rattle.cores.specs.Backing.{one_of, HeldIn, others, backing}
use Rattle.cores.specs.Settling.{Located, lost_by, SomeWay}
use Rattle.cores.specs.Laws.{CoreByPlaces}
use Rattle.cores.proofs.Sets.{Within, clear_within}
use Rattle.cores.proofs.Deciding.{stays_out, same_way}
use Rattle.cores.proofs.AtPlaces.{rows_few, rows_once, rows_held}
use Rattle.cores.proofs.Few.{few_marked, different}
use Rattle.cores.proofs.OnPlaces.{say_row, on_places, clear_rows, at_places}
use Rattle.cores.proofs.Standing.{held_marked}
use Rattle.cores.proofs.Telling.{tells_rows}

module _
    (s : Store)
    (once : OnceIn s.places)
    (C : List (List ℕ))
    (held : HeldIn s.places C)
    (plan : Plan)
    (columns : List ℕ)
    (leaves : List (Option ℕ))
    (at : Located s (named_rows plan columns) leaves)
    (B : List ℕ)
    (w : SomeWay C (lost_by plan columns) leaves B)
    (places : List ℕ)
    (same : SameSet places B) where
  abbrev Ins : List ℕ
  Ins = ins_of leaves w.way

  abbrev Outs : List ℕ
  Outs = outs_of leaves w.way

  abbrev Marks : List ℕ
  Marks = backing C Ins Outs w.choices

  abbrev Rows_here : List Row
  Rows_here = rows_at s.places places

  pub marked : SameSet places Marks
  marked = subst (SameSet places) w.is same

  -- the rows stand together
  pub stands : clear (map (rows_at s.places) C) (among Rows_here) ≡ true
  stands =
      clear_rows s.places (among Rows_here) C held ∙
      clear_within C (on_places s.places (among Rows_here)) (one_of Marks) (λ p h. place_has (member_of places Marks marked p (at_places s.places once places p h))) w.works.stands

  -- a set of rows that has them all has the marked places
  within_on : (R : Rows) → all R Rows_here ≡ true → Within (one_of Marks) (on_places s.places R)
  within_on R has p h =
      let m : Memᴰ p Marks = place_in p Marks h in
      let (row, e) = held_row (get_or s.places p None) (all_at (λ q. is_held (get_or s.places q None)) m (held_marked s C held (named_rows plan columns) leaves at w.way w.choices)) in
      ap (say_row R) e ∙ all_at R (at_put s.places row (member_of Marks places (λ q. sym (marked q)) p m) e) has

  -- so a reading that has them all is by the way that loses the line
  pub loses : (R : Rows) → clear (map (rows_at s.places) C) R ≡ true → all R Rows_here ≡ true → is_answer (nodes_of plan) (filter R (rows_of s.places)) columns ≡ false
  loses R ok has =
      let on : ℕ → Bool = on_places s.places R in
      let within : Within (one_of Marks) on = within_on R has in
      let is = same_way on leaves w.way w.long w.may
      (λ p m. within p (place_has (Memᴰ.append_left (others C Outs w.choices) m)))
      (stays_out C Ins Outs w.choices w.works on (sym (clear_rows s.places R C held) ∙ ok) within) in
      by_names plan columns (filter R (rows_of s.places)) w.way (tells_rows s R plan columns leaves at w.way is) ∙ not-true (plan_truth plan columns w.way) w.loses

pub core_by_places : CoreByPlaces
core_by_places s once C held small plan columns leaves at B w places same apart =
    let conflicts : List (List Row) = map (rows_at s.places) C in
    let here : List Row = rows_at s.places places in
    let marks : List ℕ = backing C (ins_of leaves w.way) (outs_of leaves w.way) w.choices in
    let is : SameSet places marks = marked s once C held plan columns leaves at B w places same in
    let six : length leaves ≤ 6 = omega (arith, at.long, named_long plan columns, leaves_few plan) in
    let (R, ok, part) = extension (rows_of s.places) conflicts (among here) (stands s once C held plan columns leaves at B w places same) in
    record {
      few = omega (
        arith,
        rows_few s.places places,
        different places marks apart (all_put (one_of marks) places (λ p m. place_has (member_of places marks is p m))),
        few_marked C small leaves six w.way w.choices w.works.real,
      );
      once = rows_once s.places once places apart;
      held = rows_held s.places places;
      some = (R, ok, all_put R here (λ row m. part row (row_has m)));
      none = λ R ok has. loses s once C held plan columns leaves at B w places same R (and_parts (clear conflicts R) (all (λ r. R r || not (clear conflicts (with r R))) (rows_of s.places)) ok).0 has;
    }
