use Rattle.cores.proofs.Deciding.{in_and_out}
use Rattle.cores.proofs.FirstOnly.{first_truths}
use Rattle.cores.proofs.Numbers.{bit_at, every_way}
use Rattle.cores.proofs.laws.ways.Goals as goal

pub returns : goal.returns
returns c = record { apart = in_and_out; first = first_truths; bit = bit_at; every = every_way }
