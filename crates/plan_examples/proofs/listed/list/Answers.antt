use Rattle.std.proofs.Common.{◌<◌, sym, subst}
use Rattle.store.specs.Held.{rows_of}
use Rattle.store.specs.Tables.{table_model}
use Rattle.plan.specs.Plans.{nodes_of}
use Rattle.candidates.proofs.Walking.{steps_left, walk_ends}
use Rattle.plan_examples.proofs.listed.list.Goals as goal

pub loop-next-smaller : goal.loop-next-smaller
loop-next-smaller c =
    let nodes = nodes_of c.in-Ok.plan in
    let rows = rows_of (table_model c.args.table.now).places in
    let last = c.next_candidate-next-in-Some.result in
    subst (λ o. steps_left nodes rows last < steps_left nodes rows o) (sym c.in-Some.is) (walk_ends nodes rows c.in-Some.line last c.next_candidate-next-in-Some.ensures)
