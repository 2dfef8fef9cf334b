use Rattle.std.proofs.Common.{rules}
use Rattle.store.specs.Store.{is_row}
use Rattle.store.specs.Tables.{table_model}
use Rattle.store.proofs.Firsts.{first_from_position}
use Rattle.store.proofs.Looked.{found}
use Rattle.store.proofs.table.source.TableSource.find.Goals as goal

pub returns : goal.returns
returns c =
    let t = c.args.self.now in
    found (table_model t) _ _ (first_from_position (is_row c.args.row.now) t.cells c.position.ensures.ran c.iter.ensures.rest (λ x b q k. search rules))
