use Rattle.std.proofs.Common.{length-take, arith}
use Rattle.std.proofs.Math.Seq.{take-set-lt}
use Rattle.ordered.proofs.few.Few.set.Goals as goal

pub returns : goal.returns
returns g c = let few = c.args.self.now in take-set-lt few.count few.items c.args.place c.args.item (omega (arith, length-take few.count few.items, c.requires))
