use Rattle.std.proofs.Common.{refl, ap, ◌∙◌, subst}
use Rattle.std.specs.Result.{result_ok}
use Rattle.store.specs.Store.{FindSays}
use Rattle.store.specs.Tables.{table_model}
use Rattle.store.proofs.Places.{held_at}
use Rattle.store.proofs.table.source.TableSource.strike.Goals as goal

pub returns-clause-says : goal.returns-clause-says
returns-clause-says c =
    let t = c.args.self.now in
    let (inside, stood) = subst (FindSays (table_model t) c.args.row.now) (c.ok_or.ensures.ok_part ∙ ap result_ok c.in_ok-place.was) c.find.ensures in
    let held = held_at t.cells c.in_ok-place.place c.args.row.now stood in
    record { granted = rw held; inside = inside; stood = stood; arities = refl; gone = refl }
