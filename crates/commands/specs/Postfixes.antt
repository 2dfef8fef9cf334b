-- A plan while its words are read, in lists of any length.
use Rattle.std.specs.Prelude.{◌≡◌, ℕ, [], ◌∷◌, reverse, Some, None, Option, List}
use Rattle.ordered.specs.Lists.{items_in}
use Rattle.plan.specs.declared.node.Node.{Node}
use Rattle.commands.specs.Plans.{Stacked}
use Rattle.commands.specs.declared.postfix.Postfix.{Postfix}
use Rattle.commands.specs.declared.verdicts.VerdictText.{VerdictText}

-- what the lists hold
abbrev pub stacked : Postfix → Stacked
stacked p = record { nodes = items_in p.nodes; stack = reverse (items_in p.stack) }

-- the node on top is taken away, if there is one
abbrev pub Pops : Stacked → Stacked → Option ℕ → Type 0
Pops before after None = before.stack ≡ []
Pops before after (Some node) = (after.nodes ≡ before.nodes) × (before.stack ≡ node ∷ after.stack)

-- the nodes and the columns of a verdict
abbrev pub asked : VerdictText → List Node × List ℕ
asked v = (items_in v.nodes, v.columns)
