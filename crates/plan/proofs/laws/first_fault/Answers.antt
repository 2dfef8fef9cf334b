use Rattle.plan.proofs.Faults.{first_fault_lem}
use Rattle.plan.proofs.laws.first_fault.Goals as goal

pub returns : goal.returns
returns c = first_fault_lem
