-- The values so far are read, and the other words are to come.
use Rattle.std.proofs.Common.{◌≡◌, ℕ, List, Option}
use Rattle.std.specs.Fn.{FnReturnsAt}
use Rattle.words.specs.Language.{texts}
use Rattle.words.specs.Meaning.{to_come}
use Rattle.commands.proofs.Columns.{Sofar}
use Rattle.commands.proofs.parsing.columns.values_from.Given as goal

abbrev pub invariant-loop-i : goal.invariant-loop-i
invariant-loop-i g l =
    (of : List ℕ → Option g.row.T.Denot) → ((t : List ℕ) (x : Option g.row.T.Denot) → FnReturnsAt g.F.Fn l.fn.value t x → x ≡ of t) → Sofar of l.fn.filler g.row.N (texts (to_come l.initial.words)) l.place-items l.i (to_come l.words)
