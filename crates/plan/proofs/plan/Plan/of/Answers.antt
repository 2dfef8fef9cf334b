use Rattle.std.proofs.Common.{◌≡◌, ◌-◌, length, sym, ap, ◌∙◌, subst, rules}
use Rattle.plan.specs.Filling.{Earlier, late_at, stray_at, unfit_at, first}
use Rattle.plan.specs.Gathering.{leaves_of, Gathered}
use Rattle.plan.specs.Steps.{Laid}
use Rattle.ordered.specs.Lists.{items_in}
use Rattle.plan.proofs.Asked.{granted}
use Rattle.plan.proofs.Firsts.{first_none}
use Rattle.plan.proofs.Tried.{went_on}
use Rattle.plan.proofs.plan.Plan.of.Goals as goal
use Rattle.plan.proofs.plan.Plan.of.Goals.{In_ok-tree, In_ok-leaves, In_ok-steps}

none_late : (c : In_ok-tree) → first (late_at c.in_ok-tree.tree.nodes.now) (length c.in_ok-tree.tree.nodes.now) ≡ length c.in_ok-tree.tree.nodes.now
none_late c = first_none (late_at c.in_ok-tree.tree.nodes.now) _ c.in_ok-tree.tree.early

none_stray : (c : In_ok-tree) → first (stray_at c.in_ok-tree.tree.nodes.now) (length c.in_ok-tree.tree.nodes.now - 1) ≡ length c.in_ok-tree.tree.nodes.now - 1
none_stray c = first_none (stray_at c.in_ok-tree.tree.nodes.now) _ c.in_ok-tree.tree.once

gathered : (c : In_ok-leaves) → Gathered c.in_ok-tree.tree.nodes.now c.in_ok-leaves.leaves
gathered c = went_on (Gathered c.in_ok-tree.tree.nodes.now) _ _ c.leaves.result c.map_err.result _ c.in_ok-leaves.was c.map_err.ensures.cases c.map_err.ensures.variant c.leaves.ensures

laid : (c : In_ok-steps) → Laid c.in_ok-tree.tree.nodes.now (items_in c.in_ok-steps.steps)
laid c = went_on (λ steps. Laid c.in_ok-tree.tree.nodes.now (items_in steps)) _ _ c.steps.result c.map_err-2.result _ c.in_ok-steps.was c.map_err-2.ensures.cases c.map_err-2.ensures.variant c.steps.ensures

pub returns-in_err-leaves : goal.returns-in_err-leaves
returns-in_err-leaves c =
    let at = (goal.at.returns-in_err-leaves c).In_ok-tree in
    search (rules, none_late at, none_stray at)

pub returns-in_err-steps : goal.returns-in_err-steps
returns-in_err-steps c =
    let at = goal.at.returns-in_err-steps c in
    search (rules, none_late at.In_ok-tree, none_stray at.In_ok-tree, (gathered at.In_ok-leaves).none)

pub invariant_of-result-clause-early : goal.invariant_of-result-clause-early
invariant_of-result-clause-early c = subst Earlier (sym (laid (goal.at.invariant_of-result-clause-early c).In_ok-steps).stand) c.in_ok-tree.tree.early

pub invariant_of-result-clause-starts : goal.invariant_of-result-clause-starts
invariant_of-result-clause-starts c = let told = laid (goal.at.invariant_of-result-clause-starts c).In_ok-steps in rw told.stand told.starts

pub invariant_of-result-clause-room : goal.invariant_of-result-clause-room
invariant_of-result-clause-room c = let told = laid (goal.at.invariant_of-result-clause-room c).In_ok-steps in rw told.stand told.room

pub invariant_of-result-clause-stand : goal.invariant_of-result-clause-stand
invariant_of-result-clause-stand c =
    let at = goal.at.invariant_of-result-clause-stand c in
    (gathered at.In_ok-leaves).stand ∙ ap leaves_of (sym (laid at.In_ok-steps).stand)

pub returns : goal.returns
returns c =
    let at = goal.at.returns c in
    let tree = c.in_ok-tree.tree in
    let nodes = tree.nodes.now in
    let told = laid at.In_ok-steps in
    let none = granted nodes tree.some tree.few (none_late at.In_ok-tree) (none_stray at.In_ok-tree) (gathered at.In_ok-leaves).none (first_none (unfit_at nodes) _ (λ j h. (told.wide j h).0)) in
    search rules
