use Rattle.std.proofs.Common.{◌≡◌, ℕ, true, take}
use Rattle.cores.specs.Backing.{clear_places}
use Rattle.verdict.specs.Marking.{lists_of, is_in, Shuts}
use Rattle.verdict.proofs.settling.settle.Given as goal

abbrev pub invariant-loop-conflict : goal.invariant-loop-conflict
invariant-loop-conflict l = record {
  clear : clear_places (lists_of (take l.conflict-index l.conflicts)) (is_in l.initial.marks) ≡ true;
  same : (p : ℕ) → is_in l.marks p ≡ is_in l.initial.marks p;
  shuts : Shuts (lists_of l.conflicts) l.marks;
}
