use Rattle.rules.proofs.Holding.{held_rows, put_rows, struck_rows, put_empties, struck_empties, some_empty}
use Rattle.rules.proofs.laws.holding.Goals as goal

pub returns : goal.returns
returns c = record { rows = held_rows; put = put_rows; struck = struck_rows; uses = put_empties; frees = struck_empties; empty = some_empty }
