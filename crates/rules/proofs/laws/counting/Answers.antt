use Rattle.rules.proofs.Breaking.{are_conflicts}
use Rattle.rules.proofs.Counting.{counted, too_many, one_too_many}
use Rattle.rules.proofs.laws.counting.Goals as goal

pub returns : goal.returns
returns c = record { are = are_conflicts; counted = counted; many = too_many; full = one_too_many }
