use Rattle.std.proofs.Common.{length, ap, arith}
use Rattle.plan.specs.Nodes.{blank}
use Rattle.plan.specs.declared.step.Step.{Step}
use Rattle.plan.proofs.PlanNodes.{steps_long, step_room}
use Rattle.plan.proofs.plan.Plan.part.Goals as goal

pub slice_bounds-result-end : goal.slice_bounds-result-end
slice_bounds-result-end c =
    let plan = c.args.self.now in
    let none : Step = record { node = blank; width = 0; start = 0 } in
    let room = step_room plan c.steps.result.now c.steps.ensures c.args.k none (omega (arith, ap length c.steps.ensures, steps_long plan)) in
    omega (arith, room)
