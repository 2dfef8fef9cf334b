use Rattle.std.proofs.Common.{length, below_more, arith}
use Rattle.cores.proofs.Numbers.{every_way}
use Rattle.verdict.specs.Marking.{lists_of}
use Rattle.verdict.proofs.Bits.{shifted}
use Rattle.verdict.proofs.cases.Cases.try_each.Goals as goal

pub loop-number-preserved : goal.loop-number-preserved
loop-number-preserved c = below_more _ _ c.loop-number.invariant c.if-try_way.ensures

pub returns : goal.returns
returns c =
    let leaves = c.args.self.now.leaves.now in
    every_way (lists_of c.args.self.now.conflicts.now) c.args.self.now.plan.now c.args.self.now.line.now.columns leaves c.args.self.now.long 6 c.args.self.now.six
    (λ number h. c.loop-number.invariant number (let e = c.loop-number-test.false in let s = shifted (length leaves) c.args.self.now.six in omega arith))
