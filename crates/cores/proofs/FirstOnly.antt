-- A plan's truth depends on what is said of its leaves, and on nothing behind that.
use Rattle.std.proofs.Common.{◌≡◌, ℕ, zero, suc, ◌-◌, ◌<◌, Bool, false, ◌&&◌, List, length, get_or, take, sym, refl, ap, ◌∙◌, ap₂, arith, get_or-take}
use Rattle.plan.specs.Answers.{chosen, plan_width}
use Rattle.plan.specs.Filling.{leaves_before}
use Rattle.plan.specs.Nodes.{blank}
use Rattle.plan.specs.Plans.{nodes_of}
use Rattle.plan.specs.Truths.{part_at, named_rows, combined, truth_of, truths, line_fits}
use Rattle.plan.specs.declared.node.Node.{Node}
use Rattle.plan.specs.declared.node.Node.TheVariants.{Leaf, Choice, Pair}
use Rattle.plan.specs.declared.plan.Plan.{Plan}
use Rattle.plan.proofs.Evaluating.{truth_at_lem}
use Rattle.plan.proofs.PlanLeaves.{leaf_number, named_long}
use Rattle.plan.proofs.PlanNodes.{choice_in, pair_in}
use Rattle.cores.specs.Laws.{FirstTruths}

module _ (plan : Plan) (columns : List ℕ) (a b : List Bool) (same : take (length (named_rows plan columns)) a ≡ take (length (named_rows plan columns)) b) where
  abbrev Truths : List Bool → List Bool
  Truths truth = truths plan columns truth

  abbrev Same : ℕ → Type 0
  Same k = get_or (Truths a) k false ≡ get_or (Truths b) k false

  -- a leaf has a number, and of it both say the same
  same_leaf : (k : ℕ) → k < length (nodes_of plan) → (relation arity : ℕ) (fields : List _) → get_or (nodes_of plan) k blank ≡ Leaf relation arity fields →
      get_or a (leaves_before (nodes_of plan) k) false ≡ get_or b (leaves_before (nodes_of plan) k) false
  same_leaf k h relation arity fields e =
      let i : ℕ = leaves_before (nodes_of plan) k in
      let n : ℕ = length (named_rows plan columns) in
      let few : i < n = omega (arith, (leaf_number plan k h relation arity fields e).0, named_long plan columns) in
      sym (get_or-take n a i false few) ∙ ap (λ t. get_or t i false) same ∙ get_or-take n b i false few

  same_node : (k : ℕ) → k < length (nodes_of plan) → ((j : ℕ) → j < k → Same j) → (n : Node) → get_or (nodes_of plan) k blank ≡ n →
      truth_of (get_or a (leaves_before (nodes_of plan) k) false) (part_at plan columns k) (Truths a) n ≡ truth_of (get_or b (leaves_before (nodes_of plan) k) false) (part_at plan columns k) (Truths b) n
  same_node k h ih (Leaf relation arity fields) e = same_leaf k h relation arity fields e
  same_node k h ih (Choice node comparison) e = ap (λ t. t && chosen comparison (part_at plan columns k)) (ih node (choice_in plan k h node comparison e).0)
  same_node k h ih (Pair op left right) e = let (i, j, _, _) = pair_in plan k h op left right e in ap₂ (combined op) (ih left i) (ih right j)

  same_below : (m k : ℕ) → k < m → k < length (nodes_of plan) → Same k
  same_below zero k l h = absurd (omega arith)
  same_below (suc m) k l h =
      sym (truth_at_lem plan columns a k h) ∙ same_node k h (λ j i. same_below m j (omega arith) (omega arith)) (get_or (nodes_of plan) k blank) refl ∙ truth_at_lem plan columns b k h

pub first_truths : FirstTruths
first_truths plan columns a b same =
    let last : ℕ = length (nodes_of plan) - 1 in
    ap (λ t. line_fits (plan_width (nodes_of plan)) columns && t) (same_below plan columns a b same (suc last) last (omega arith) (omega (arith, plan.some)))
