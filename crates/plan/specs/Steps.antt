-- The nodes of a plan's steps, how wide each is, and where each begins.
use Rattle.std.specs.Prelude.{◌≡◌, ℕ, List, map, length, replicate}
use Rattle.plan.specs.Parts.{Measured, Offsets, Roomy}
use Rattle.plan.specs.declared.node.Node.{Node}
use Rattle.plan.specs.declared.step.Step.{Step}

abbrev pub nodes_in : List Step → List Node
nodes_in steps = map (λ step. step.node) steps

abbrev pub widths_in : List Step → List ℕ
widths_in steps = map (λ step. step.width) steps

abbrev pub starts_in : List Step → List ℕ
starts_in steps = map (λ step. step.start) steps

-- a step for each node, with its width; each begins at 0 until more is known
pub record Begun (nodes : List Node) (steps : List Step) : Type 0 where
  pub stand : nodes_in steps ≡ nodes
  pub wide : Measured nodes (length nodes) (widths_in steps)
  pub zero : starts_in steps ≡ replicate (length nodes) 0

-- a step for each node, with its width and with where its line begins
pub record Laid (nodes : List Node) (steps : List Step) : Type 0 where
  pub stand : nodes_in steps ≡ nodes
  pub wide : Measured nodes (length nodes) (widths_in steps)
  pub starts : Offsets nodes (widths_in steps) (starts_in steps)
  pub room : Roomy (length nodes) (widths_in steps) (starts_in steps)
