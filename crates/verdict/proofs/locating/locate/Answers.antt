use Rattle.std.proofs.Common.{◌≡◌, true, sym, refl, ap, ◌∙◌, subst, arith}
use Rattle.std.specs.List.{slice_get}
use Rattle.std.proofs.lemmas.Bool.{lt-ltb}
use Rattle.ordered.specs.Lists.{items_in}
use Rattle.store.specs.Store.{FindSays}
use Rattle.plan.specs.Truths.{named_rows}
use Rattle.verdict.specs.LeafPlaces.{has_byte}
use Rattle.verdict.proofs.Placed.{Placed, place_more, place_end}
use Rattle.verdict.proofs.locating.locate.Goals as goal
use Rattle.verdict.proofs.locating.locate.Goals.{in-Some-find, in-None}

pub loop-row-preserved : goal.loop-row-preserved
loop-row-preserved g c =
    let s = g.S.Source.model c.args.source.now in
    let named = named_rows c.args.plan.now c.args.line.now.columns in
    let items = items_in c.loop-row.leaves in
    let place = c.match-find.place in
    let got = ap (slice_get named) (sym c.len.ensures.length) ∙ sym c.named.ensures ∙ c.in-Some.is in
    let few = (g.met.S.Source.keeps c.args.source.now).few in
    let told : FindSays s c.in-Some.row place × (has_byte place ≡ true) = elim c.match-find.branch [
      | in-Some-find w ↦ let says = w.in-Some-find.ensures in rw w.place-is (says, lt-ltb w.in-Some-find.place 256 (let lt = says.0 in omega arith))
      | in-None w ↦ rw w.place-is (w.in-None.ensures, refl)
    ] in
    subst (Placed s named) (sym c.push.ensures) (place_more s named items c.loop-row.invariant c.in-Some.row place got told.0 told.1)

pub returns-clause-located : goal.returns-clause-located
returns-clause-located g c =
    let named = named_rows c.args.plan.now c.args.line.now.columns in
    place_end (g.S.Source.model c.args.source.now) named (items_in c.loop-row.leaves) c.loop-row.invariant (ap (slice_get named) (sym c.len.ensures.length) ∙ sym c.named.ensures ∙ c.in_default.is)
