use Rattle.std.proofs.Common.{◌<◌, length, sym, ◌∙◌, arith, rules}
use Rattle.verdict.proofs.Marked.{one_room, write_out, write_none, write_one}
use Rattle.verdict.proofs.writing.write_core.Goals as goal
use Rattle.verdict.proofs.writing.write_core.Goals.{then-says+in-Some, then-says+in_default, else-says}

pub offset_bounds-core-count : goal.offset_bounds-core-count
offset_bounds-core-count g c =
    let table = (g.S.Source.model c.args.source.now).places in
    let lt : c.loop-place.place < length table = search rules in
    let one = one_room c.args.marks.now c.loop-place.place (length table) lt (sym c.if-says.ensures) in
    let few = c.loop-place.invariant.few in
    let all = c.requires.few in
    let most : c.loop-place.count < 12 = omega arith in
    omega (arith, most)

pub bounds-core-count : goal.bounds-core-count
bounds-core-count g c =
    let table = (g.S.Source.model c.args.source.now).places in
    let lt : c.loop-place.place < length table = search rules in
    let one = one_room c.args.marks.now c.loop-place.place (length table) lt (sym c.if-says.ensures) in
    let few = c.loop-place.invariant.few in
    let all = c.requires.few in
    let room = c.requires.room in
    omega arith

pub overflow_add-count : goal.overflow_add-count
overflow_add-count g c =
    let table = (g.S.Source.model c.args.source.now).places in
    let lt : c.loop-place.place < length table = search rules in
    let one = one_room c.args.marks.now c.loop-place.place (length table) lt (sym c.if-says.ensures) in
    let few = c.loop-place.invariant.few in
    let all = c.requires.few in
    let most : c.loop-place.count < 12 = omega arith in
    omega (arith, most)

pub loop-place-preserved : goal.loop-place-preserved
loop-place-preserved g c =
    let table = (g.S.Source.model c.args.source.now).places in
    elim c.if-says.branch [
      | then-says+in-Some w ↦
          let lt : c.loop-place.place < length table = search rules in
          let one = one_room c.args.marks.now c.loop-place.place (length table) lt (sym w.if-says.ensures) in
          let few = c.loop-place.invariant.few in
          let all = c.requires.few in
          let room = c.requires.room in
          let inside : c.loop-place.count < length c.loop-place.core = omega arith in
          rw (w.core-is, w.count-is) (write_one table c.args.marks.now _ _ _ _ c.loop-place.invariant (sym w.if-says.ensures) w.in-Some.row inside (sym w.in-Some.ensures))
      | then-says+in_default w ↦ rw (w.core-is, w.count-is) (write_none table c.args.marks.now _ _ _ _ c.loop-place.invariant (sym w.if-says.ensures) (sym w.read.ensures ∙ w.in_default.is))
      | else-says w ↦ rw (w.core-is, w.count-is) (write_out table c.args.marks.now _ _ _ _ c.loop-place.invariant (sym w.if-says.ensures))
    ]
