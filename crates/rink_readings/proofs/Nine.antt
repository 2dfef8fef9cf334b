-- The nine verdicts.
use Rattle.std.proofs.Common.{[], ◌∷◌, refl, arith}
use Rattle.rules.proofs.Extension.{some_reading}
use Rattle.plan.specs.declared.node.Op.TheVariants.{Union}
use Rattle.rink_readings.specs.Examples.{on_pad, ice, held, void, flood, party, held_or_void, held_or_flood, ice_or_flood, one_club, three_flooded, five_pads}
use Rattle.rink_readings.specs.Examples.{all_of, floods_on, parties_of, two, ice_not_held, NothingHeld, RinkReadings}
use Rattle.rink_readings.proofs.Deciding.{sure_by, core_by}
use Rattle.rink_readings.proofs.NoRows.{no_answer}

nothing_held : NothingHeld
nothing_held rules atoms nodes columns =
    let (R, ok) = some_reading [] rules atoms in
    record { few = omega arith; once = refl; held = refl; some = (R, ok, refl); none = λ S k has. no_answer nodes columns }

-- of a core, the rows that a reading keeps with it are told behind it
pub nine : RinkReadings
nine =
    record {
      nothing_held = nothing_held;
      ice_not_held = sure_by (held_or_void ∷ []) (ice ∷ void ∷ []) ice_not_held (1 ∷ 40 ∷ []) refl;
      ice_maybe_held = core_by (held_or_void ∷ []) (ice ∷ void ∷ held ∷ []) ice_not_held (1 ∷ 40 ∷ []) (held ∷ []) (ice ∷ held ∷ []) (omega arith) refl refl;
      held_in_none = (refl, sure_by (five_pads ∷ []) (on_pad 0 6 ∷ on_pad 1 6 ∷ []) ice_not_held (6 ∷ 40 ∷ []) refl);
      one_of_two_clubs = core_by (one_club ∷ []) (party 7 ∷ party 9 ∷ []) (parties_of 7 ∷ []) (1 ∷ 40 ∷ []) (party 9 ∷ []) (party 9 ∷ []) (omega arith) refl refl;
      either_club = sure_by (one_club ∷ []) (party 7 ∷ party 9 ∷ []) (two Union (parties_of 7) (parties_of 9)) (1 ∷ 40 ∷ []) refl;
      one_of_three_floods =
          core_by (three_flooded ∷ []) (flood 1 ∷ flood 2 ∷ flood 3 ∷ []) (floods_on 1 ∷ []) (40 ∷ []) (flood 2 ∷ flood 3 ∷ []) (flood 2 ∷ flood 3 ∷ []) (omega arith) refl refl;
      either_flood = sure_by (three_flooded ∷ []) (flood 1 ∷ flood 2 ∷ flood 3 ∷ []) (two Union (floods_on 1) (floods_on 2)) (40 ∷ []) refl;
      both_out =
          core_by (held_or_flood ∷ held_or_void ∷ ice_or_flood ∷ []) (held ∷ flood 1 ∷ void ∷ ice ∷ []) (two Union (all_of 1) (all_of 4)) (1 ∷ 40 ∷ []) (void ∷ ice ∷ []) (void ∷ ice ∷ []) (omega arith) refl refl;
    }
