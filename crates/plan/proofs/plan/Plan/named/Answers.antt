use Rattle.std.proofs.Common.{Some, sym, ap, ◌∙◌}
use Rattle.std.specs.Option.{option_map}
use Rattle.std.proofs.lemmas.Option.{slice_get-map}
use Rattle.plan.specs.Gathering.{leaves_of}
use Rattle.plan.specs.Leaves.{named}
use Rattle.plan.specs.Plans.{nodes_of}
use Rattle.plan.specs.Truths.{part_at}
use Rattle.plan.specs.declared.leaf.PlanLeaf.{PlanLeaf}
use Rattle.store.specs.declared.row.Row.{Row}
use Rattle.plan.proofs.PlanLeaves.{leaf_read, leaf_width}
use Rattle.plan.proofs.plan.Plan.named.Goals as goal

pub row_at-requires-clause-within : goal.row_at-requires-clause-within
row_at-requires-clause-within c = (leaf_read c.args.self.now c.args.number _ (sym c.in_ok-leaf.ensures)).1.within

pub row_at-requires-clause-wide : goal.row_at-requires-clause-wide
row_at-requires-clause-wide c = leaf_width c.args.self.now c.in_ok-leaf.field-0 (leaf_read c.args.self.now c.args.number _ (sym c.in_ok-leaf.ensures)).1

pub returns : goal.returns
returns c =
    let plan = c.args.self.now in
    let row_of : PlanLeaf → Row = λ leaf. named leaf.relation leaf.fields (part_at plan c.args.line.now.columns leaf.node) in
    ap Some c.row_at.ensures ∙ sym (slice_get-map row_of (leaves_of (nodes_of plan)) c.args.number ∙ ap (option_map row_of) (sym c.in_ok-leaf.ensures))
