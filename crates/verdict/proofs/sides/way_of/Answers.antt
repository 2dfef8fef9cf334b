use Rattle.std.proofs.Common.{◌∙◌, length-set}
use Rattle.cores.specs.Ways.{bits}
use Rattle.verdict.proofs.Bits.{bit_more}
use Rattle.verdict.proofs.sides.way_of.Goals as goal

pub loop-k-preserved : goal.loop-k-preserved
loop-k-preserved c = record {
  six = length-set c.loop-k.way c.loop-k.k _ ∙ c.loop-k.invariant.six;
  halved = bit_more c.loop-k.way c.loop-k.rest c.loop-k.k (bits c.args.number 6) c.loop-k-test.true c.loop-k.invariant.six c.loop-k.invariant.halved;
}
