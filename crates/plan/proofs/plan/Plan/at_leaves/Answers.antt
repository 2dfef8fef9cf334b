use Rattle.std.proofs.Common.{◌≡◌, ◌<◌, [], ◌∷◌, ◌++◌, map, length, get_or, take, refl, sym, ap, ◌∙◌, ap₂, arith, length-set, take_all}
use Rattle.std.proofs.lemmas.Fn.{says_at}
use Rattle.std.proofs.lemmas.List.{take_more_set, map_more, get_or-map}
use Rattle.store.specs.declared.row.Row.{Row}
use Rattle.plan.specs.Gathering.{leaves_of}
use Rattle.plan.specs.Leaves.{named}
use Rattle.plan.specs.Plans.{nodes_of}
use Rattle.plan.specs.Truths.{part_at, named_rows}
use Rattle.plan.specs.declared.leaf.PlanLeaf.{PlanLeaf}
use Rattle.plan.proofs.PlanLeaves.{leaf_listed, leaf_width, leaves_few, named_long}
use Rattle.plan.proofs.plan.Plan.at_leaves.Goals as goal

pub row_at-requires-clause-within : goal.row_at-requires-clause-within
row_at-requires-clause-within g c = (leaf_listed c.args.self.now _ c.leaf_list-leaf-items.ensures c.loop-number.number _ c.loop-number-test.true).within

pub row_at-requires-clause-wide : goal.row_at-requires-clause-wide
row_at-requires-clause-wide g c = leaf_width c.args.self.now _ (leaf_listed c.args.self.now _ c.leaf_list-leaf-items.ensures c.loop-number.number _ c.loop-number-test.true)

pub loop-number-preserved : goal.loop-number-preserved
loop-number-preserved g c =
    let plan = c.args.self.now in
    let columns = c.args.line.now.columns in
    let i = c.loop-number.number in
    let truth = c.loop-number.truth in
    let leaves = leaves_of (nodes_of plan) in
    let rows = named_rows plan columns in
    let row = c.row_at.result in
    let items = c.leaf_list-leaf-items.ensures in
    let (six, told) = c.loop-number.invariant in
    let inside : i < length leaves = omega (arith, ap length items) in
    let row_of : PlanLeaf → Row = λ leaf. named leaf.relation leaf.fields (part_at plan columns leaf.node) in
    let d : PlanLeaf = record { node = 0; relation = 0; arity = 0; fields = [] } in
    let at : row ≡ get_or rows i row = c.row_at.ensures ∙ ap (λ ls. row_of (get_or ls i d)) items ∙ sym (get_or-map row_of leaves i d row inside) in (
      length-set truth i _ ∙ six,
      (λ there is. take_more_set truth i _ (omega (arith, leaves_few plan)) ∙ ap₂ (λ front b. front ++ (b ∷ [])) (told there is) (is row _ (says_at g.F.Fn c.passes.ensures refl) ∙ ap there at)
          ∙ sym (map_more there rows i row (omega (arith, named_long plan columns)))),
    )

pub returns : goal.returns
returns g c =
    let rows = named_rows c.args.self.now c.args.line.now.columns in
    let all : c.loop-number.number ≡ length rows = omega (arith, named_long c.args.self.now c.args.line.now.columns, ap length c.leaf_list-leaf-items.ensures) in
    λ there is. ap (λ n. take n c.loop-number.truth) (sym all) ∙ c.loop-number.invariant.1 there is ∙ ap (map there) (take_all c.loop-number.number rows (omega arith))
