use Rattle.std.proofs.Common.{◌<◌, length, take, filter, sym, subst, ◌∙◌, arith, take_all}
use Rattle.ordered.specs.Lists.{items_in}
use Rattle.candidates.specs.Wanting.{passes}
use Rattle.std.specs.Range.Bound.{bound_map}
use Rattle.store.specs.Held.{rows_of}
use Rattle.plan.specs.Leaves.{leaf_lines}
use Rattle.candidates.specs.Seeking.{Least}
use Rattle.candidates.proofs.Least.{place_empty, place_more}
use Rattle.candidates.proofs.nodes.Candidates.at_leaf.Goals as goal
use Rattle.candidates.proofs.nodes.Candidates.at_leaf.Goals.{in-Some, in_default}

pub loop-place-preserved : goal.loop-place-preserved
loop-place-preserved g c =
    let leaf = c.args.leaf.now in
    let search = c.args.search in
    let wanted = c.args.wanted.now in
    let test = passes (items_in wanted.comparisons) (take c.args.at wanted.known) in
    let places = (g.S.Source.model c.args.self.now.source.now).places in
    let i = c.loop-place.place in
    let within : i < length places = omega (arith, c.places-place-end.ensures) in
    let start = bound_map (take search.width) search.start in
    elim c.match-read.branch [
      | in-Some w ↦ rw w.least-is (rw w.lesser-least.ensures (place_more places i within start search.width test leaf.relation leaf.fields w.in-Some.row (sym c.read.ensures ∙ w.in-Some.is) c.loop-place.least w.least_of.result c.loop-place.invariant w.least_of.ensures))
      | in_default w ↦ rw w.least-is (subst (λ rows. Least (filter test (leaf_lines leaf.relation leaf.fields rows)) start search.width c.loop-place.least) (sym (place_empty places i within (sym c.read.ensures ∙ w.in_default.is))) c.loop-place.invariant)
    ]

pub returns : goal.returns
returns g c =
    let leaf = c.args.leaf.now in
    let search = c.args.search in
    let wanted = c.args.wanted.now in
    let test = passes (items_in wanted.comparisons) (take c.args.at wanted.known) in
    let places = (g.S.Source.model c.args.self.now.source.now).places in
    subst (λ ps. Least (filter test (leaf_lines leaf.relation leaf.fields (rows_of ps))) (bound_map (take search.width) search.start) search.width c.loop-place.least) (take_all c.loop-place.place places (omega (arith, c.places-place-end.ensures))) c.loop-place.invariant
