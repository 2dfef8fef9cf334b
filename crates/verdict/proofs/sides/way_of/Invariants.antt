use Rattle.std.proofs.Common.{◌≡◌, ◌-◌, ◌++◌, length, take}
use Rattle.cores.specs.Ways.{bits}
use Rattle.verdict.proofs.sides.way_of.Given as goal

abbrev pub invariant-loop-k : goal.invariant-loop-k
invariant-loop-k l = record {
  six : length l.way ≡ 6;
  halved : take l.k l.way ++ bits l.rest (6 - l.k) ≡ bits l.fn.number 6;
}
