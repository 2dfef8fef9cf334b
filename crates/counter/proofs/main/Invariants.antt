use Rattle.std.proofs.Common.{◌≡◌, length}
use Rattle.counter.proofs.main.Given as goal

abbrev pub invariant-loop : goal.invariant-loop
invariant-loop l = length l.block ≡ 16384
