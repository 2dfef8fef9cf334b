use Rattle.store.proofs.Places.{once_none, fit_none}
use Rattle.std.proofs.Common.{refl}
use Rattle.store.proofs.table.Table.new.Goals as goal

pub invariant_of-result : goal.invariant_of-result
invariant_of-result c = record { sized = refl; fit = fit_none c.declared.result 64; once = once_none 64 }
