use Rattle.std.proofs.Common.{◌≡◌, ◌+◌, ◌≤◌, ◌++◌, length}
use Rattle.std.specs.Slice.Iter.{iter_rest}
use Rattle.ordered.specs.Lists.{items_in}
use Rattle.plan.specs.Leaves.{matches, opened}
use Rattle.candidates.proofs.leaf.line_of.Given as goal

abbrev pub invariant-loop-field : goal.invariant-loop-field
invariant-loop-field l =
    let fields = iter_rest l.field-iterator.a in
    let columns = iter_rest l.field-iterator.b in
    (length fields ≡ length columns) × (length (items_in l.open) + length fields ≤ 4) × (matches fields columns ≡ matches l.leaf.fields l.row.columns) ×
    (items_in l.open ++ opened fields columns ≡ opened l.leaf.fields l.row.columns)
