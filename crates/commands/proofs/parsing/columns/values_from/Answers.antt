-- Each turn reads the next word into the next place.
use Rattle.std.proofs.Common.{Some, None, refl, arith}
use Rattle.commands.proofs.Columns.{one_more, no_more}
use Rattle.commands.proofs.parsing.columns.values_from.Goals as goal

pub returns-in_err-place-clause-reads : goal.returns-in_err-place-clause-reads
returns-in_err-place-clause-reads g c of tells =
    let none = tells _ None (record { shown = c.in-Some.part.text; shows = refl; says = record { met = c.in_err-place.ensures } }) in
    let ended = no_more (c.loop-i.invariant of tells) c.in-Some.ensures.steps none in
    cc

pub loop-i-preserved : goal.loop-i-preserved
loop-i-preserved g c of tells =
    let some = tells _ (Some c.in_ok-place.field-0) (record { shown = c.in-Some.part.text; shows = refl; says = record { met = c.in_ok-place.ensures } }) in
    one_more (c.loop-i.invariant of tells) _ c.in-Some.ensures.steps some (omega arith)
