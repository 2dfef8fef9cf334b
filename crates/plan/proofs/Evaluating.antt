-- The truth of a plan's nodes, one by one.
use Rattle.std.proofs.Common.{◌≡◌, ℕ, ◌<◌, Bool, false, ◌&&◌, ◌+◌, List, [], ◌∷◌, ◌++◌, length, get_or, take, sym, refl, ap, ◌∙◌, ap₂, arith, length-take-le, get_or-take}
use Rattle.std.proofs.lemmas.Bool.{leb-false}
use Rattle.std.proofs.lemmas.List.{take_more}
use Rattle.plan.specs.Answers.{chosen}
use Rattle.plan.specs.Filling.{leaves_before}
use Rattle.plan.specs.Nodes.{blank}
use Rattle.plan.specs.Plans.{nodes_of}
use Rattle.plan.specs.Truths.{part_at, combined, truth_of, truths}
use Rattle.plan.specs.declared.node.Node.{Node}
use Rattle.plan.specs.declared.node.Node.TheVariants.{Leaf, Choice, Pair}
use Rattle.plan.specs.declared.plan.Plan.{Plan}
use Rattle.plan.proofs.Grown.{grown_at, length_grown, Agree, Local, pair_early}
use Rattle.plan.proofs.Standing.{NoLeaf}

truth_local : (own : Bool) (part : List ℕ) → Local false (truth_of own part)
truth_local own part xs ys k same (Leaf relation arity fields) f = refl
truth_local own part xs ys k same (Choice node comparison) f = ap (λ b. b && chosen comparison part) (same node (leb-false k node f))
truth_local own part xs ys k same (Pair op left right) f = let (a, b) = pair_early k left right f in ap₂ (combined op) (same left a) (same right b)

-- what a node that is no leaf has of its own does not matter
pub own_idle : (own : Bool) (part : List ℕ) (done : List Bool) (n : Node) → NoLeaf n → truth_of false part done n ≡ truth_of own part done n
own_idle own part done (Leaf relation arity fields) other = absurd (other relation arity fields refl)
own_idle own part done (Choice node comparison) other = refl
own_idle own part done (Pair op left right) other = refl

module _ (plan : Plan) (columns : List ℕ) (truth : List Bool) (k : ℕ) (within : k < length (nodes_of plan)) where
  abbrev Own : Bool
  Own = get_or truth (leaves_before (nodes_of plan) k) false

  abbrev All : List Bool
  All = truths plan columns truth

  step : List Bool → Node → Bool
  step done = truth_of (get_or truth (leaves_before (nodes_of plan) (length done)) false) (part_at plan columns (length done)) done

  -- a node's truth, from that of those before it
  pub truth_after : truth_of Own (part_at plan columns k) (take k All) (get_or (nodes_of plan) k blank) ≡ get_or All k false
  unfolding step
  truth_after =
      let long : length (take k All) ≡ k = length-take-le k All (omega (arith, length_grown step (nodes_of plan))) in
      ap (λ n. truth_of (get_or truth (leaves_before (nodes_of plan) n) false) (part_at plan columns n) (take k All) (get_or (nodes_of plan) k blank)) (sym long) ∙ sym (grown_at step (nodes_of plan) k false within)

  -- and from any list that has the truth of those before it
  pub truth_by : (bs : List Bool) → Agree false k bs (truths plan columns truth) → truth_of Own (part_at plan columns k) bs (get_or (nodes_of plan) k blank) ≡ get_or (truths plan columns truth) k false
  truth_by bs same = truth_local Own (part_at plan columns k) bs (take k All) k (λ j i. same j i ∙ sym (get_or-take k All j false i)) (get_or (nodes_of plan) k blank) (plan.early k within) ∙ truth_after

  pub truths_more : (bs : List Bool) (b : Bool) → bs ≡ take k All → b ≡ truth_of Own (part_at plan columns k) bs (get_or (nodes_of plan) k blank) → bs ++ (b ∷ []) ≡ take (k + 1) All
  unfolding step
  truths_more bs b front here =
      let is : b ≡ get_or All k false = here ∙ ap (λ done. truth_of Own (part_at plan columns k) done (get_or (nodes_of plan) k blank)) front ∙ truth_after in
      ap₂ (λ done x. done ++ (x ∷ [])) front is ∙ sym (take_more All k false (omega (arith, length_grown step (nodes_of plan))))

  pub truth_at_lem : truth_of Own (part_at plan columns k) (truths plan columns truth) (get_or (nodes_of plan) k blank) ≡ get_or (truths plan columns truth) k false
  truth_at_lem = truth_local Own (part_at plan columns k) All (take k All) k (λ j i. sym (get_or-take k All j false i)) (get_or (nodes_of plan) k blank) (plan.early k within) ∙ truth_after

-- there is a truth for each node
pub truths_long : (plan : Plan) (columns : List ℕ) (truth : List Bool) → length (truths plan columns truth) ≡ length (nodes_of plan)
truths_long plan columns truth = length_grown (λ done. truth_of (get_or truth (leaves_before (nodes_of plan) (length done)) false) (part_at plan columns (length done)) done) (nodes_of plan)
