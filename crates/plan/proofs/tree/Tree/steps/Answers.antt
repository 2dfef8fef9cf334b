use Rattle.std.proofs.Common.{◌≡◌, ◌+◌, ◌-◌, ◌<◌, length, get_or, ap, ◌∙◌, subst, arith}
use Rattle.ordered.specs.Lists.{items_in}
use Rattle.plan.specs.Nodes.{blank}
use Rattle.plan.specs.Steps.{widths_in, starts_in}
use Rattle.plan.specs.declared.step.Step.{Step}
use Rattle.plan.proofs.Measures.{pair_fits}
use Rattle.plan.proofs.Offsetting.{Inv, choice_step, pair_step}
use Rattle.plan.proofs.Stepping.{as_many, part_read}
use Rattle.plan.proofs.tree.Tree.steps.Goals as goal

pub loop-k-preserved-in-Choice : goal.loop-k-preserved-in-Choice
loop-k-preserved-in-Choice c =
    let tree = c.args.self.now in
    let nodes = tree.nodes.now in
    let steps = items_in c.loop-k.steps in
    let k = c.loop-k.k - 1 in
    let none : Step = record { node = blank; width = 0; start = 0 } in
    let (_, stand, wide, inv) = c.loop-k.invariant in
    let up : c.loop-k.k ≡ k + 1 = omega arith in
    let within : k < length nodes = omega arith in
    let start : (get_or c.as_slice.result.now k none).start ≡ get_or (starts_in steps) k 0 = part_read (λ s. s.start) steps _ c.as_slice.ensures.items k none 0 (omega (arith, ap length stand)) in
    let done = choice_step nodes tree.early tree.once (widths_in steps) wide k within (starts_in steps) (subst (λ n. Inv nodes (widths_in steps) n (starts_in steps)) up inv) _ _ c.in-Choice.is in
    (omega arith, c.begin_at.ensures.nodes ∙ stand, rw c.begin_at.ensures.widths wide, rw (c.begin_at.ensures.widths, c.begin_at.ensures.starts, start) done)

pub right_start-requires : goal.right_start-requires
right_start-requires c =
    let tree = c.args.self.now in
    let nodes = tree.nodes.now in
    let steps = items_in c.loop-k.steps in
    let k = c.loop-k.k - 1 in
    let none : Step = record { node = blank; width = 0; start = 0 } in
    let (_, stand, wide, inv) = c.loop-k.invariant in
    let up : c.loop-k.k ≡ k + 1 = omega arith in
    let within : k < length nodes = omega arith in
    let left : c.in-Pair.left < k = (pair_fits nodes tree.early (widths_in steps) wide k within _ _ _ c.in-Pair.is).0 in
    let start : (get_or c.as_slice.result.now k none).start ≡ get_or (starts_in steps) k 0 = part_read (λ s. s.start) steps _ c.as_slice.ensures.items k none 0 (omega (arith, ap length stand)) in
    let width : (get_or c.as_slice-in-Pair.result.now c.in-Pair.left none).width ≡ get_or (widths_in steps) c.in-Pair.left 0 = part_read (λ s. s.width) steps _ c.as_slice-in-Pair.ensures.items c.in-Pair.left none 0 (omega (arith, ap length stand)) in
    rw (start, width) (pair_step nodes tree.early tree.once (widths_in steps) wide k within (starts_in steps) (subst (λ n. Inv nodes (widths_in steps) n (starts_in steps)) up inv) _ _ _ c.in-Pair.is).0

pub begin_at-requires-in-Pair-2 : goal.begin_at-requires-in-Pair-2
begin_at-requires-in-Pair-2 c =
    let tree = c.args.self.now in
    let nodes = tree.nodes.now in
    let steps = items_in c.begin_at-in-Pair.new.steps in
    let k = c.loop-k.k - 1 in
    let within : k < length nodes = omega arith in
    let right : c.in-Pair.right < k = (pair_fits nodes tree.early _ c.loop-k.invariant.2 k within _ _ _ c.in-Pair.is).1 in
    omega (arith, as_many steps, ap length (c.begin_at-in-Pair.ensures.nodes ∙ c.loop-k.invariant.1))

pub loop-k-preserved : goal.loop-k-preserved
loop-k-preserved c =
    let tree = c.args.self.now in
    let nodes = tree.nodes.now in
    let steps = items_in c.loop-k.steps in
    let ws = widths_in steps in
    let os = starts_in steps in
    let k = c.loop-k.k - 1 in
    let none : Step = record { node = blank; width = 0; start = 0 } in
    let (_, stand, wide, inv) = c.loop-k.invariant in
    let up : c.loop-k.k ≡ k + 1 = omega arith in
    let within : k < length nodes = omega arith in
    let left : c.in-Pair.left < k = (pair_fits nodes tree.early ws wide k within _ _ _ c.in-Pair.is).0 in
    let start : (get_or c.as_slice.result.now k none).start ≡ get_or os k 0 = part_read (λ s. s.start) steps _ c.as_slice.ensures.items k none 0 (omega (arith, ap length stand)) in
    let width : (get_or c.as_slice-in-Pair.result.now c.in-Pair.left none).width ≡ get_or ws c.in-Pair.left 0 = part_read (λ s. s.width) steps _ c.as_slice-in-Pair.ensures.items c.in-Pair.left none 0 (omega (arith, ap length stand)) in
    let done = (pair_step nodes tree.early tree.once ws wide k within os (subst (λ n. Inv nodes ws n os) up inv) _ _ _ c.in-Pair.is).1 in
    let first = c.begin_at-in-Pair.ensures in
    let second = c.begin_at-in-Pair-2.ensures in
    (omega arith, second.nodes ∙ first.nodes ∙ stand, rw (second.widths, first.widths) wide, rw (second.widths, first.widths, second.starts, first.starts, c.right_start.ensures, width, start) done)
