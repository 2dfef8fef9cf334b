use Rattle.std.proofs.Common.{sym, refl, ◌∙◌, subst, length-set}
use Rattle.store.proofs.Handed.{handed_on}
use Rattle.store.specs.Store.{PutSays}
use Rattle.store.specs.Tables.{table_model}
use Rattle.store.proofs.Asked.{asked, admitted, refused_at_sight, vacated}
use Rattle.store.proofs.Places.{fit_put, once_put}
use Rattle.store.proofs.table.source.TableSource.put.Goals as goal

pub returns-in_err-admit-clause-says : goal.returns-in_err-admit-clause-says
returns-in_err-admit-clause-says c =
    let s = table_model c.args.self.now in
    let row = c.args.row.now in
    subst (PutSays s s row) (sym (handed_on c.from_residual.result c.from_residual.ensures.1)) (refl, refused_at_sight s row _ c.arity-arity.ensures c.in_err-admit.ensures)

pub returns-in_err-place-clause-says : goal.returns-in_err-place-clause-says
returns-in_err-place-clause-says c =
    let s = table_model c.args.self.now in
    let row = c.args.row.now in
    subst (PutSays s s row) (sym (handed_on c.from_residual-in_err-place.result c.from_residual-in_err-place.ensures.1)) (refl, asked s row _ _ c.arity-arity.ensures c.find-held.ensures c.vacant_for.ensures ∙ c.in_err-place.ensures)

pub invariant_of-self : goal.invariant_of-self
invariant_of-self c =
    let t = c.args.self.now in
    let row = c.args.row.now in
    let (declared, ends, free) = admitted (table_model t) row (asked (table_model t) row _ _ c.arity-arity.ensures c.find-held.ensures c.vacant_for.ensures ∙ c.in_ok-place.ensures.0) in
    let inside = (vacated _ row t.cells _ _ _ c.in_ok-place.ensures.0 c.in_ok-place.ensures.1 c.vacant_for.ensures).0 in
    record { sized = length-set t.cells _ _ ∙ t.sized; fit = fit_put t.cells _ inside t.arities row declared ends t.fit; once = once_put t.cells _ inside row free t.once }
