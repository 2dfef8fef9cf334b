use Rattle.plan.specs.Filling.{late_at, stray_at}
use Rattle.plan.proofs.Firsts.{before_first}
use Rattle.plan.proofs.Tried.{went_on}
use Rattle.plan.proofs.nodes.Nodes.tree.Goals as goal

pub invariant_of-result-clause-early : goal.invariant_of-result-clause-early
invariant_of-result-clause-early c =
    before_first (late_at c.args.self.now.nodes.now) _ _ (went_on _ _ _ c.check_earlier.result c.map_err.result _ c.in_ok-map_err.was c.map_err.ensures.cases c.map_err.ensures.variant c.check_earlier.ensures)

pub invariant_of-result-clause-once : goal.invariant_of-result-clause-once
invariant_of-result-clause-once c =
    before_first (stray_at c.args.self.now.nodes.now) _ _ (went_on _ _ _ c.check_named.result c.map_err-2.result _ c.in_ok-map_err-2.was c.map_err-2.ensures.cases c.map_err-2.ensures.variant c.check_named.ensures)
