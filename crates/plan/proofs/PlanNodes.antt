-- What a plan keeps of its nodes, one by one.
use Rattle.std.proofs.Common.{◌≡◌, ℕ, ◌+◌, ◌<◌, ◌≤◌, ap, true, List, length, get_or, drop, subst, arith, length-drop, length-take-le}
use Rattle.ordered.specs.Lists.{items_in}
use Rattle.plan.specs.Answers.{width_by}
use Rattle.plan.specs.Filling.{inside, alike}
use Rattle.plan.specs.Leaves.{fields_of, opens}
use Rattle.plan.specs.Nodes.{blank}
use Rattle.plan.specs.Parts.{passes}
use Rattle.plan.specs.Plans.{nodes_of, widths_of, starts_of}
use Rattle.plan.specs.Truths.{part_at}
use Rattle.plan.specs.declared.node.Field.{Field}
use Rattle.store.specs.declared.comparison.Comparison.{Comparison}
use Rattle.plan.specs.declared.node.Op.{Op}
use Rattle.plan.specs.declared.node.Node.{Node}
use Rattle.plan.specs.declared.node.Node.TheVariants.{Leaf, Choice, Pair}
use Rattle.plan.specs.declared.step.Step.{Step}
use Rattle.plan.specs.declared.plan.Plan.{Plan}
use Rattle.plan.proofs.Measures.{leaf_wide, choice_fits, pair_fits}
use Rattle.plan.proofs.Offsetting.{Passes, passes_to}
use Rattle.plan.proofs.Stepping.{as_many, part_read}

-- the steps as they are read, and what is said of them by their nodes, their widths and their starts
module _ (plan : Plan) where
  pub steps_long : length (items_in plan.steps) ≡ length (nodes_of plan)
  steps_long = as_many (items_in plan.steps)

  module _ (steps : List Step) (e : steps ≡ items_in plan.steps) (k : ℕ) (d : Step) (h : k < length steps) where
    pub step_node : (get_or steps k d).node ≡ get_or (nodes_of plan) k blank
    step_node = part_read (λ step. step.node) (items_in plan.steps) steps e k d blank (omega (arith, ap length e, steps_long))

    pub step_room : (get_or steps k d).start + (get_or steps k d).width ≤ 8
    step_room =
        let inside : k < length (nodes_of plan) = omega (arith, ap length e, steps_long) in
        let start : (get_or steps k d).start ≡ get_or (starts_of plan) k 0 = part_read (λ step. step.start) (items_in plan.steps) steps e k d 0 inside in
        let width : (get_or steps k d).width ≡ get_or (widths_of plan) k 0 = part_read (λ step. step.width) (items_in plan.steps) steps e k d 0 inside in
        omega (arith, plan.room k inside)

module _ (plan : Plan) (k : ℕ) (within : k < length (nodes_of plan)) where
  pub part_long : (columns : List ℕ) → length columns ≡ 8 → length (part_at plan columns k) ≡ get_or (widths_of plan) k 0
  part_long columns eight = length-take-le (get_or (widths_of plan) k 0) (drop (get_or (starts_of plan) k 0) columns) (simp length-drop (omega (arith, plan.room k within)))

  pub leaf_in : (relation arity : ℕ) (fields : List Field) → get_or (nodes_of plan) k blank ≡ Leaf relation arity fields → get_or (widths_of plan) k 0 ≡ opens (fields_of arity fields)
  leaf_in relation arity fields e = leaf_wide (nodes_of plan) plan.early (widths_of plan) plan.wide k within relation arity fields e

  pub choice_in : (m : ℕ) (comparison : Comparison ℕ) → get_or (nodes_of plan) k blank ≡ Choice m comparison →
      (m < k) × (get_or (widths_of plan) k 0 ≡ get_or (widths_of plan) m 0) × (inside (get_or (widths_of plan) m 0) comparison ≡ true)
  choice_in m comparison e = choice_fits (nodes_of plan) plan.early (widths_of plan) plan.wide k within m comparison e

  pub pair_in : (op : Op) (left right : ℕ) → get_or (nodes_of plan) k blank ≡ Pair op left right →
      (left < k) × (right < k) × (get_or (widths_of plan) k 0 ≡ width_by op (get_or (widths_of plan) left 0) (get_or (widths_of plan) right 0)) × (alike op (get_or (widths_of plan) left 0) (get_or (widths_of plan) right 0) ≡ true)
  pair_in op left right e = pair_fits (nodes_of plan) plan.early (widths_of plan) plan.wide k within op left right e

  -- the nodes that it names begin where they should
  pub passes_at : (n : Node) → get_or (nodes_of plan) k blank ≡ n → Passes (widths_of plan) (starts_of plan) (get_or (starts_of plan) k 0) n
  passes_at n e = passes_to (widths_of plan) (starts_of plan) (get_or (starts_of plan) k 0) n (subst (λ m. passes (widths_of plan) (starts_of plan) (get_or (starts_of plan) k 0) m ≡ true) e (plan.starts.1 k within))
