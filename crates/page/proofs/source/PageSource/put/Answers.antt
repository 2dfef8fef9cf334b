use Rattle.std.proofs.Common.{◌≡◌, ℕ, List, Some, None, sym, refl, ap, ◌∙◌, subst, arith}
use Rattle.store.proofs.Handed.{handed_on}
use Rattle.store.specs.Store.{PutSays, put_refusal}
use Rattle.store.specs.Tables.{VacantSays}
use Rattle.store.proofs.Asked.{asked, admitted, refused_at_sight, vacated}
use Rattle.page.specs.Checks.{IsPage}
use Rattle.page.specs.Pages.{places_of}
use Rattle.page.specs.Sources.{page_model}
use Rattle.page.proofs.Kept.{page_put, places_put}
use Rattle.page.proofs.Pages.{length_places}
use Rattle.page.proofs.Standing.{is_page, carried}
use Rattle.page.proofs.source.PageSource.put.Goals as goal
use Rattle.page.proofs.source.PageSource.put.Goals.{In_ok-place}

pub returns-in_err-admit-clause-says : goal.returns-in_err-admit-clause-says
returns-in_err-admit-clause-says c =
    let s = page_model c.args.self.now in
    let row = c.args.row.now in
    subst (PutSays s s row) (sym (handed_on c.from_residual.result c.from_residual.ensures.1)) (refl, refused_at_sight s row _ c.arity-arity.ensures c.in_err-admit.ensures)

pub returns-in_err-place-clause-says : goal.returns-in_err-place-clause-says
returns-in_err-place-clause-says c =
    let s = page_model c.args.self.now in
    let row = c.args.row.now in
    subst (PutSays s s row) (sym (handed_on c.from_residual-in_err-place.result c.from_residual-in_err-place.ensures.1)) (refl, asked s row _ _ c.arity-arity.ensures c.find-held.ensures c.vacant_for.ensures ∙ c.in_err-place.ensures)

-- the row is granted the place, which is empty
granted : (c : In_ok-place) → put_refusal (page_model c.args.self.now) c.args.row.now ≡ None
granted c = asked (page_model c.args.self.now) c.args.row.now _ _ c.arity-arity.ensures c.find-held.ensures c.vacant_for.ensures ∙ c.in_ok-place.ensures.0

vacant : (c : In_ok-place) → VacantSays (places_of c.args.self.now.bytes.now) (Some c.in_ok-place.place)
vacant c = vacated _ c.args.row.now (places_of c.args.self.now.bytes.now) _ _ _ c.in_ok-place.ensures.0 c.in_ok-place.ensures.1 c.vacant_for.ensures

pub write_place-requires : goal.write_place-requires
write_place-requires c = omega (arith, (vacant (goal.at.write_place-requires c).In_ok-place).0, length_places c.args.self.now.bytes.now)

pub returns-clause-says : goal.returns-clause-says
returns-clause-says c =
    let p = c.args.self.now in
    let bytes = p.bytes.now in
    let at = (goal.at.returns-clause-says c).In_ok-place in
    let (inside, none) = vacant at in
    let wrote = c.write_place.ensures in
    record {
      granted = granted at;
      inside = inside;
      empty = none;
      arities = refl;
      stands = ap places_of wrote.bytes ∙ places_put bytes p.arities (is_page p) c.in_ok-place.place inside c.args.row.now wrote.back wrote.long;
    }

pub invariant_of-self : goal.invariant_of-self
invariant_of-self c =
    let p = c.args.self.now in
    let at = (goal.at.invariant_of-self c).In_ok-place in
    let (declared, ends, free) = admitted (page_model p) c.args.row.now (granted at) in
    let inside = (vacant at).0 in
    let wrote = c.write_place.ensures in
    carried _ p.arities (subst (λ (bytes : List ℕ). IsPage bytes p.arities) (sym wrote.bytes)
    (page_put p.bytes.now p.arities (is_page p) c.in_ok-place.place inside c.args.row.now wrote.back wrote.long declared ends free))
