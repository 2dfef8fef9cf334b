use Rattle.std.proofs.Common.{◌≡◌, Bool, map, length, take}
use Rattle.std.specs.Fn.{FnReturnsAt}
use Rattle.store.specs.declared.row.Row.{Row}
use Rattle.plan.specs.Truths.{named_rows}
use Rattle.plan.proofs.plan.Plan.at_leaves.Given as goal

abbrev pub invariant-loop-number : goal.invariant-loop-number
invariant-loop-number g l =
    (length l.truth ≡ 6) ×
    ((there : Row → Bool) → ((row : Row) (b : Bool) → FnReturnsAt g.F.Fn l.fn.passes row b → b ≡ there row) → take l.number l.truth ≡ map there (take l.number (named_rows l.self l.line.columns)))
