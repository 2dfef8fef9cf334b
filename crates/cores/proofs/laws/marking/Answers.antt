use Rattle.cores.proofs.Others.{push_marks}
use Rattle.cores.proofs.Chosen.{push_real}
use Rattle.cores.proofs.Few.{few_marked, different}
use Rattle.cores.proofs.Standing.{held_marked}
use Rattle.cores.proofs.laws.marking.Goals as goal

pub returns : goal.returns
returns c = record { push = push_marks; real = push_real; few = few_marked; different = different; held = held_marked }
