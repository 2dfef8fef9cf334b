-- Each half is what `side` tells of it, and the sign stands behind the left one.
use Rattle.std.proofs.Common.{Some, None, refl, arith}
use Rattle.words.specs.declared.separators.Separator.TheVariants.{Sign}
use Rattle.commands.proofs.Comparing.{no_left, no_right, both_read}
use Rattle.commands.proofs.Rooms.{halves_room}
use Rattle.commands.proofs.parsing.comparison.compared.Goals as goal

pub bounds-text-left : goal.bounds-text-left
bounds-text-left g c = omega (arith, halves_room Sign c.args.text.now c.in_ok-left.ensures)

pub returns-in_err-side : goal.returns-in_err-side
returns-in_err-side g c of tells =
    let none = no_left of _ _ _ c.in_ok-left.ensures (tells _ None (record { shown = c.in_ok-left.left; shows = refl; says = record { met = c.in_err-side.ensures } })) in
    cc

pub returns-in_err-side-2 : goal.returns-in_err-side-2
returns-in_err-side-2 g c of tells =
    let left = tells _ (Some c.in_ok-side.field-0) (record { shown = c.in_ok-left.left; shows = refl; says = record { met = c.in_ok-side.ensures } }) in
    let right = tells _ None (record { shown = c.in_ok-left.right; shows = refl; says = record { met = c.in_err-side-2.ensures } }) in
    let none = no_right of _ _ _ c.in_ok-left.ensures _ _ left c.in_ok-sign_of.ensures right in
    cc

pub returns : goal.returns
returns g c of tells =
    let left = tells _ (Some c.in_ok-side.field-0) (record { shown = c.in_ok-left.left; shows = refl; says = record { met = c.in_ok-side.ensures } }) in
    let right = tells _ (Some c.in_ok-side-2.field-0) (record { shown = c.in_ok-left.right; shows = refl; says = record { met = c.in_ok-side-2.ensures } }) in
    both_read of _ _ _ c.in_ok-left.ensures _ _ _ left c.in_ok-sign_of.ensures right
