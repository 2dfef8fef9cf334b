use Rattle.std.proofs.Common.{ℕ, ◌<◌, [], ◌∷◌}
use Rattle.cores.specs.Searching.{NoneBeyond}
use Rattle.verdict.specs.Marking.{lists_of}
use Rattle.verdict.proofs.search.Search.can_start.Given as goal

abbrev pub invariant-loop-choice : goal.invariant-loop-choice
invariant-loop-choice l = (c : ℕ) → c < l.choice → NoneBeyond (lists_of l.self.conflicts.now) l.self.ins.now l.self.outs.now (c ∷ [])
