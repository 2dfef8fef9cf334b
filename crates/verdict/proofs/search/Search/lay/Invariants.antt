use Rattle.std.proofs.Common.{take}
use Rattle.cores.specs.Backing.{backing}
use Rattle.verdict.specs.Marking.{lists_of, Shows, NoneShut}
use Rattle.verdict.proofs.search.Search.lay.Given as goal

abbrev pub invariant-loop-k : goal.invariant-loop-k
invariant-loop-k l = record {
  shows : Shows (backing (lists_of l.self.conflicts.now) l.self.ins.now l.self.outs.now (take l.k l.choices)) l.marks;
  none : NoneShut l.marks;
}
