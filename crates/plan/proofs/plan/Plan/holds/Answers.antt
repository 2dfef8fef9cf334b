use Rattle.std.specs.Slice.Iter.{iter_rest, iter_steps}
use Rattle.std.proofs.lemmas.List.{get_or-drop}
use Rattle.std.specs.Option.{unwrap_or}
use Rattle.std.proofs.Common.{◌≡◌, ℕ, ◌+◌, ◌<◌, Bool, false, List, [], ◌∷◌, length, get_or, Some, None, Option, Bor, Iter, drop-drop, refl, sym, ap, ◌∙◌, subst, rules, arith, take, drop, take_all, length-take-le}
use Rattle.store.specs.declared.row.Row.{Row}
use Rattle.ordered.specs.Lists.{items_in}
use Rattle.plan.specs.Answers.{is_answer}
use Rattle.plan.specs.Filling.{leaves_before}
use Rattle.plan.specs.Nodes.{blank}
use Rattle.plan.specs.Plans.{nodes_of}
use Rattle.plan.specs.Truths.{part_at, truth_of, truths, plan_truth, Tells}
use Rattle.plan.specs.declared.plan.Plan.{Plan}
use Rattle.plan.proofs.Answering.{by_names}
use Rattle.plan.proofs.Evaluating.{own_idle, truths_more, truths_long}
use Rattle.plan.proofs.PlanNodes.{steps_long, step_node}
use Rattle.plan.proofs.Standing.{NoLeaf, count_leaf, count_other}
use Rattle.plan.proofs.plan.Plan.holds.Goals as goal
use Rattle.plan.proofs.plan.Plan.holds.Goals.{In-Leaf, After-len, in-Leaf, in_default}

nothing : (xs : List Bool) → length xs ≡ 0 → (false ≡ get_or xs 0 false) × (xs ≡ drop 1 xs)
nothing [] none = (refl, refl)
nothing (x ∷ xs) none = absurd (omega arith)

-- what is told next, or false if nothing is, and what is left then
told_next : (s t : Iter Bool) (r : Option (Bor Bool)) (v d : Bor Bool) → v ≡ unwrap_or r d → d.now ≡ false → iter_steps s r t → (v.now ≡ get_or (iter_rest s) 0 false) × (iter_rest t ≡ drop 1 (iter_rest s))
told_next s t None v d e f (none, same) = let n = nothing (iter_rest s) none in (ap (λ b. b.now) e ∙ f ∙ n.0, ap iter_rest same ∙ n.1)
told_next s t (Some x) v d e f is = (ap (λ b. b.now) e ∙ sym (ap (λ xs. get_or xs 0 false) is), sym (ap (drop 1) is))

pub truth_at-requires-clause-earlier : goal.truth_at-requires-clause-earlier
truth_at-requires-clause-earlier c =
    let plan = c.args.self.now in
    let k = c.loop-k.k in
    let all = truths plan c.args.line.now.columns c.args.truth.now in
    let long : length (take k all) ≡ k = length-take-le k all (omega (arith, truths_long plan c.args.line.now.columns c.args.truth.now, ap length c.as_slice-step-items.ensures.items, steps_long plan)) in
    omega (arith, ap length c.as_slice.ensures.items, ap length c.loop-k.invariant.1)

pub loop-k-preserved : goal.loop-k-preserved
loop-k-preserved c =
    let plan = c.args.self.now in
    let nodes = nodes_of plan in
    let columns = c.args.line.now.columns in
    let truth = c.args.truth.now in
    let k = c.loop-k.k in
    let items = c.as_slice-step-items.ensures.items in
    let l : k < length nodes = omega (arith, ap length items, steps_long plan) in
    let node = step_node plan _ items k _ c.loop-k-test.true in
    let (count, front) = c.loop-k.invariant in
    let own = get_or truth (leaves_before nodes k) false in
    let bs = items_in c.loop-k.truths in
    elim c.match-step.branch [
      | in-Leaf w ↦
          let is = sym node ∙ w.in-Leaf.is in let at = leaves_before nodes k in
          let (next, rest) = told_next c.loop-k.told w.next.new.self w.next.result w.unwrap_or.result _ w.unwrap_or.ensures refl w.next.ensures.steps in
          let here : w.unwrap_or.result.now ≡ own = next ∙ ap (λ xs. get_or xs 0 false) count ∙ get_or-drop at truth 0 false ∙ ap (λ n. get_or truth n false) {x = at + 0} {y = at} (omega arith) in (
            ap iter_rest w.told-is ∙ rest ∙ ap (drop 1) count ∙ drop-drop 1 at truth ∙ ap (λ n. drop n truth) (sym (count_leaf nodes k l _ _ _ is)),
            ap items_in w.truths-is ∙ w.push.ensures ∙ truths_more plan columns truth k l bs _ front (here ∙ sym (ap (truth_of own (part_at plan columns k) bs) is)),
          )
      | in_default w ↦
          let other = subst NoLeaf node w.in_default.not-Leaf in (
            ap (λ i. i.rest.now) w.told-is ∙ count ∙ ap (λ n. drop n truth) (sym (count_other nodes k l other)),
            ap items_in w.truths-is ∙ w.push-in_default.ensures ∙ truths_more plan columns truth k l bs _ front (w.truth_at.ensures ∙ own_idle own (part_at plan columns k) _ (get_or nodes k blank) other ∙ ap (λ ts. truth_of own (part_at plan columns k) ts (get_or nodes k blank)) w.as_slice.ensures.items),
          )
    ]

-- what is told, and so what it means for any rows
says : (plan : Plan) (columns : List ℕ) (truth : List Bool) (r : Bool) → r ≡ plan_truth plan columns truth → (rows : List Row) → Tells plan columns rows truth → r ≡ is_answer (nodes_of plan) rows columns
says plan columns truth r told rows tells = told ∙ sym (by_names plan columns rows truth tells)

pub returns-then-not-fits-clause-means : goal.returns-then-not-fits-clause-means
returns-then-not-fits-clause-means c = says c.args.self.now c.args.line.now.columns c.args.truth.now false (search rules)

-- at the end there is a truth for each node
ended : (c : After-len) → c.as_slice-2.result.now ≡ truths c.args.self.now c.args.line.now.columns c.args.truth.now
ended c =
    let plan = c.args.self.now in
    let all = truths plan c.args.line.now.columns c.args.truth.now in
    c.as_slice-2.ensures.items ∙ c.loop-k.invariant.1 ∙ take_all c.loop-k.k all (omega (arith, truths_long plan c.args.line.now.columns c.args.truth.now, ap length c.as_slice-step-items.ensures.items, steps_long plan))

pub bounds-as_slice-len : goal.bounds-as_slice-len
bounds-as_slice-len c = omega (arith, ap length (ended (goal.at.bounds-as_slice-len c).After-len), truths_long c.args.self.now c.args.line.now.columns c.args.truth.now, c.len.ensures.length, steps_long c.args.self.now, c.args.self.now.some)

pub returns-clause-means : goal.returns-clause-means
returns-clause-means c =
    let all = ended (goal.at.returns-clause-means c).After-len in
    let long = steps_long c.args.self.now in
    says c.args.self.now c.args.line.now.columns c.args.truth.now _ (search rules)
