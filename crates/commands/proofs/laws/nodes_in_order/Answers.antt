use Rattle.commands.proofs.Growing.{in_order}
use Rattle.commands.proofs.laws.nodes_in_order.Goals as goal

pub returns : goal.returns
returns c = in_order
