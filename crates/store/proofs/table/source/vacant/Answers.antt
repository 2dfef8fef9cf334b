use Rattle.std.proofs.Common.{rules}
use Rattle.store.specs.Store.{is_empty}
use Rattle.store.proofs.Firsts.{first_from_position}
use Rattle.store.proofs.Looked.{vacant_at}
use Rattle.store.proofs.table.source.vacant.Goals as goal

pub returns : goal.returns
returns c = vacant_at c.args.cells.now _ (first_from_position is_empty c.args.cells.now c.position.ensures.ran c.iter.ensures.rest (λ x b q k. search rules))
