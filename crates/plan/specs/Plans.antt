-- What a plan is, and what filling one does.
use Rattle.std.specs.Prelude.{◌≡◌, ℕ, List, [], ◌∷◌, replicate, Some, None, Ok, Err, Result}
use Rattle.ordered.specs.Lists.{items_in}
use Rattle.plan.specs.Filling.{fill_refusal}
use Rattle.plan.specs.Steps.{nodes_in, widths_in, starts_in}
use Rattle.plan.specs.declared.node.Field.TheVariants.{Open}
use Rattle.plan.specs.declared.node.Node.{Node}
use Rattle.plan.specs.declared.node.Node.TheVariants.{Leaf}
use Rattle.plan.specs.declared.plan.Plan.{Plan}
use Rattle.plan.specs.declared.refusal.Refusal.{Refusal}

-- the nodes of a plan
abbrev pub nodes_of : Plan → List Node
nodes_of plan = nodes_in (items_in plan.steps)

-- how wide the line of each is, and where in the plan's line it begins
abbrev pub widths_of : Plan → List ℕ
widths_of plan = widths_in (items_in plan.steps)

abbrev pub starts_of : Plan → List ℕ
starts_of plan = starts_in (items_in plan.steps)

-- the plan at first: one open leaf of relation 0, arity 1
abbrev pub first_nodes : List Node
first_nodes = Leaf 0 1 (replicate 4 Open) ∷ []

-- fill either makes these nodes the plan, or is refused by the first question that is answered No and leaves the plan as it was
abbrev pub FillSays : List Node → Plan → Plan → Result (Unit {0}) Refusal → Type 0
FillSays nodes before after (Ok _) = (fill_refusal nodes ≡ None) × (nodes_of after ≡ nodes)
FillSays nodes before after (Err e) = (fill_refusal nodes ≡ Some e) × (after ≡ before)
