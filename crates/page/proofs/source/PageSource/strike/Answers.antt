use Rattle.std.proofs.Common.{ℕ, List, Some, sym, refl, ap, ◌∙◌, subst, arith}
use Rattle.std.specs.Result.{result_ok}
use Rattle.store.specs.Store.{FindSays}
use Rattle.store.proofs.Places.{held_at}
use Rattle.page.specs.Checks.{IsPage}
use Rattle.page.specs.Pages.{places_of}
use Rattle.page.specs.Sources.{page_model}
use Rattle.page.proofs.Kept.{page_struck, places_struck}
use Rattle.page.proofs.Pages.{length_places}
use Rattle.page.proofs.Standing.{is_page, carried}
use Rattle.page.proofs.source.PageSource.strike.Goals as goal
use Rattle.page.proofs.source.PageSource.strike.Goals.{In_ok-place}

-- the row stands at the place that was found
found : (c : In_ok-place) → FindSays (page_model c.args.self.now) c.args.row.now (Some c.in_ok-place.place)
found c = subst (FindSays (page_model c.args.self.now) c.args.row.now) (c.ok_or.ensures.ok_part ∙ ap result_ok c.in_ok-place.was) c.find.ensures

pub write_place-requires : goal.write_place-requires
write_place-requires c = omega (arith, (found (goal.at.write_place-requires c).In_ok-place).0, length_places c.args.self.now.bytes.now)

pub returns-clause-says : goal.returns-clause-says
returns-clause-says c =
    let p = c.args.self.now in
    let bytes = p.bytes.now in
    let (inside, stood) = found (goal.at.returns-clause-says c).In_ok-place in
    let held = held_at (places_of bytes) c.in_ok-place.place c.args.row.now stood in
    record { granted = rw held; inside = inside; stood = stood; arities = refl; gone = ap places_of c.write_place.ensures.bytes ∙ places_struck bytes p.arities (is_page p) c.in_ok-place.place inside }

pub invariant_of-self : goal.invariant_of-self
invariant_of-self c =
    let p = c.args.self.now in
    let inside = (found (goal.at.invariant_of-self c).In_ok-place).0 in
    carried _ p.arities (subst (λ (bytes : List ℕ). IsPage bytes p.arities) (sym c.write_place.ensures.bytes) (page_struck p.bytes.now p.arities (is_page p) c.in_ok-place.place inside))
