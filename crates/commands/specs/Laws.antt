-- The theorem about plans as lines write them.
use Rattle.std.specs.Prelude.{◌≡◌, ℕ, ◌-◌, ◌<◌, false, List, length, Some}
use Rattle.plan.specs.Filling.{Earlier, stray_at}
use Rattle.plan.specs.declared.node.Node.{Node}
use Rattle.commands.specs.Plans.{plan_from}

-- of the nodes that words make, each names earlier ones only, and each but the last is named exactly once
abbrev pub InOrder : Type 0
InOrder = (ws : List (List ℕ)) (nodes : List Node) → plan_from ws ≡ Some nodes → Earlier nodes × ((c : ℕ) → c < length nodes - 1 → stray_at nodes c ≡ false)
