use Rattle.std.proofs.Common.{arith}
use Rattle.page.proofs.Laid.{laid_more, laid_page, laid_back}
use Rattle.page.proofs.writing.write_page.Goals as goal

pub loop-place-preserved : goal.loop-place-preserved
loop-place-preserved c = laid_more c.args.places.now c.loop-place.bytes c.loop-place.place c.write_place.new.bytes (omega arith) c.write_place.auto.bytes c.loop-place.invariant c.write_place.ensures.long c.write_place.ensures.back c.write_place.ensures.bytes

pub returns : goal.returns
returns c =
    let end = c.loop-place-test.false in
    let laid = c.loop-place.invariant in
    (omega arith, laid_page c.args.places.now c.loop-place.bytes _ end laid, laid_back c.args.places.now c.loop-place.bytes _ end laid)
