use Rattle.std.proofs.Common.{◌≡◌, ◌+◌, ◌≤◌, ◌++◌, length, drop}
use Rattle.ordered.specs.Lists.{items_in}
use Rattle.cores.specs.Ways.{ins_of, outs_of, possible}
use Rattle.verdict.proofs.sides.split.Given as goal

abbrev pub invariant-loop-k : goal.invariant-loop-k
invariant-loop-k l = record {
  room : length (items_in l.ins) + length (items_in l.outs) ≤ l.k;
  may : possible (drop l.k l.leaves) (drop l.k l.way) ≡ possible l.leaves l.way;
  ins : items_in l.ins ++ ins_of (drop l.k l.leaves) (drop l.k l.way) ≡ ins_of l.leaves l.way;
  outs : items_in l.outs ++ outs_of (drop l.k l.leaves) (drop l.k l.way) ≡ outs_of l.leaves l.way;
}
