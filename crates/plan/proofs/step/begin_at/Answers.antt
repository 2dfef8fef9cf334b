use Rattle.std.proofs.Common.{get_or, ap, ◌∙◌}
use Rattle.std.proofs.lemmas.List.{map-set}
use Rattle.std.proofs.Math.Seq.{map-set_same}
use Rattle.ordered.specs.Lists.{items_in}
use Rattle.plan.specs.Nodes.{blank}
use Rattle.plan.specs.Steps.{nodes_in, widths_in, starts_in}
use Rattle.plan.specs.declared.step.Step.{Step}
use Rattle.plan.proofs.step.begin_at.Goals as goal

pub returns-clause-nodes : goal.returns-clause-nodes
returns-clause-nodes c =
    let none : Step = record { node = blank; width = 0; start = 0 } in
    ap nodes_in c.set.ensures ∙ map-set_same (λ s. s.node) (items_in c.args.steps.now) c.args.k _ none (ap (λ ss. (get_or ss c.args.k none).node) c.as_slice.ensures.items)

pub returns-clause-widths : goal.returns-clause-widths
returns-clause-widths c =
    let none : Step = record { node = blank; width = 0; start = 0 } in
    ap widths_in c.set.ensures ∙ map-set_same (λ s. s.width) (items_in c.args.steps.now) c.args.k _ none (ap (λ ss. (get_or ss c.args.k none).width) c.as_slice.ensures.items)

pub returns-clause-starts : goal.returns-clause-starts
returns-clause-starts c = ap starts_in c.set.ensures ∙ map-set (λ s. s.start) (items_in c.args.steps.now) c.args.k _
