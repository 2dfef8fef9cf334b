use Rattle.std.proofs.Common.{◌≡◌, ◌-◌, length, Some, None, sym, subst, ap, arith}
use Rattle.store.specs.Held.{rows_of}
use Rattle.plan.specs.Plans.{nodes_of}
use Rattle.plan.proofs.PlanNodes.{steps_long}
use Rattle.candidates.specs.Candidates.{NextSays}
use Rattle.candidates.specs.Seeking.{Finds}
use Rattle.candidates.proofs.Nexts.{says_none, says_some}
use Rattle.std.proofs.lemmas.List.{length-take}
use Rattle.candidates.proofs.next.next_candidate.Goals as goal

pub least-requires : goal.least-requires
least-requires g c =
    let plan = c.args.plan.now in
    let few = length-take plan.steps.count plan.steps.items in
    let within = plan.steps.within in
    let none = ap length c.nothing.ensures in
    omega (arith, ap length c.steps.ensures, steps_long plan, plan.some)

pub returns-in_err-columns : goal.returns-in_err-columns
returns-in_err-columns g c =
    let plan = c.args.plan.now in
    let rows = rows_of (g.S.Source.model c.args.source.now).places in
    let last : length c.steps.result.now - 1 ≡ length (nodes_of plan) - 1 = omega (arith, ap length c.steps.ensures, steps_long plan) in
    subst (NextSays (nodes_of plan) rows c.args.after) (sym c.from_residual.ensures)
    (says_none plan rows c.args.after c.past.ensures.long (length c.steps.result.now - 1) last c.nothing.result c.nothing.ensures
    (subst (λ s. Finds rows plan (length c.steps.result.now - 1) c.nothing.result s None) c.past.ensures.start c.in_err-columns.ensures))

pub returns : goal.returns
returns g c =
    let plan = c.args.plan.now in
    let rows = rows_of (g.S.Source.model c.args.source.now).places in
    let last : length c.steps.result.now - 1 ≡ length (nodes_of plan) - 1 = omega (arith, ap length c.steps.ensures, steps_long plan) in
    says_some plan rows c.args.after c.past.ensures.long (length c.steps.result.now - 1) last c.nothing.result c.nothing.ensures c.in_ok-columns.columns
    (subst (λ s. Finds rows plan (length c.steps.result.now - 1) c.nothing.result s (Some c.in_ok-columns.columns)) c.past.ensures.start c.in_ok-columns.ensures)
