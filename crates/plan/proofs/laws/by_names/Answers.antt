use Rattle.plan.proofs.Answering.{by_names}
use Rattle.plan.proofs.laws.by_names.Goals as goal

pub returns : goal.returns
returns c = by_names
