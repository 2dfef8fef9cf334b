use Rattle.std.proofs.Common.{◌≡◌, [], ◌++◌, length, sym, ap, ◌∙◌, inl, inr, arith, append-nil, ap₂}
use Rattle.std.specs.Slice.Iter.{iter_rest}
use Rattle.std.proofs.lemmas.List.{drop_all}
use Rattle.ordered.specs.Lists.{items_in}
use Rattle.plan.specs.Leaves.{matches, opened}
use Rattle.candidates.proofs.OneLine.{one_line}
use Rattle.candidates.proofs.leaf.line_of.Goals as goal

pub returns : goal.returns
returns c =
    let leaf = c.args.leaf.now in
    let row = c.args.row.now in
    let (even, few, good, same) = c.loop-field.invariant in
    let none : length (iter_rest c.loop-field.field-iterator.a) ≡ 0 = elim c.in-None.ensures.steps [ inl e ↦ e.1.0 | inr e ↦ even ∙ e.1.0 ] in
    let fs : iter_rest c.loop-field.field-iterator.a ≡ [] = drop_all 0 (iter_rest c.loop-field.field-iterator.a) (omega arith) in
    let xs : iter_rest c.loop-field.field-iterator.b ≡ [] = drop_all 0 (iter_rest c.loop-field.field-iterator.b) (omega arith) in
    let items : items_in c.loop-field.open ≡ opened leaf.fields row.columns = sym (append-nil _) ∙ ap (λ zs. items_in c.loop-field.open ++ zs) (sym (ap₂ opened fs xs)) ∙ same in
    let copied : c.copy_from_slice.new.self ≡ opened leaf.fields row.columns = c.copy_from_slice.ensures.after ∙ c.as_slice.ensures.items ∙ items in
    one_line leaf.relation leaf.fields row c.if-row-leaf.false (sym good ∙ ap₂ matches fs xs) _ copied c.len.result (ap length c.copy_from_slice.ensures.after ∙ ap length c.as_slice.ensures.items ∙ sym c.len.ensures.length) (omega arith)
