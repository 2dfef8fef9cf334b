use Rattle.std.proofs.Common.{◌≡◌, length, get_or, sym, ap, ◌∙◌, arith}
use Rattle.plan.specs.Filling.{inside}
use Rattle.plan.specs.Nodes.{blank}
use Rattle.plan.specs.Plans.{nodes_of}
use Rattle.plan.specs.declared.node.Node.TheVariants.{Choice, Pair}
use Rattle.plan.proofs.PlanNodes.{steps_long, step_node, choice_in, pair_in}
use Rattle.plan.proofs.plan.Plan.truth_at.Goals as goal
use Rattle.plan.proofs.plan.Plan.truth_at.Goals.{In-Choice, In-Pair}

choice : (c : In-Choice) → get_or (nodes_of c.args.self.now) c.args.k blank ≡ Choice c.in-Choice.node c.in-Choice.comparison
choice c =
    let plan = c.args.self.now in
    sym (step_node plan _ c.as_slice.ensures.items c.args.k _ (omega (arith, ap length c.as_slice.ensures.items, steps_long plan))) ∙ c.in-Choice.is

pair : (c : In-Pair) → get_or (nodes_of c.args.self.now) c.args.k blank ≡ Pair c.in-Pair.op c.in-Pair.left c.in-Pair.right
pair c =
    let plan = c.args.self.now in
    sym (step_node plan _ c.as_slice.ensures.items c.args.k _ (omega (arith, ap length c.as_slice.ensures.items, steps_long plan))) ∙ c.in-Pair.is

pub bounds-truths-node : goal.bounds-truths-node
bounds-truths-node c = omega (arith, (choice_in c.args.self.now c.args.k c.requires.within _ _ (choice (goal.at.bounds-truths-node c).In-Choice)).0)

pub is_chosen-requires : goal.is_chosen-requires
is_chosen-requires c =
    let plan = c.args.self.now in
    let (l, same, fits) = choice_in plan c.args.k c.requires.within _ _ (choice (goal.at.is_chosen-requires c).In-Choice) in
    ap (λ n. inside n c.in-Choice.comparison) (c.part.ensures.wide ∙ same) ∙ fits

pub bounds-truths-left : goal.bounds-truths-left
bounds-truths-left c = omega (arith, (pair_in c.args.self.now c.args.k c.requires.within _ _ _ (pair (goal.at.bounds-truths-left c).In-Pair)).0)

pub bounds-truths-right : goal.bounds-truths-right
bounds-truths-right c = omega (arith, (pair_in c.args.self.now c.args.k c.requires.within _ _ _ (pair (goal.at.bounds-truths-right c).In-Pair)).1)
