use Rattle.std.proofs.Common.{◌≡◌, ◌<◌, false, not, ◌&&◌, leb, List, [], ◌∷◌, ◌++◌, length, get_or, take_all, get_or-take, below_more, sym, ap, ◌∙◌, subst, arith, ℕ, ◌≤◌, refl, replicate}
use Rattle.std.proofs.lemmas.Bool.{and_left, and_right, and_from, lt-leb, le-leb}
use Rattle.std.proofs.lemmas.List.{replicate-append-replicate, map-append}
use Rattle.std.proofs.lemmas.List.Elements.{All-push}
use Rattle.std.specs.List.{All}
use Rattle.ordered.specs.Lists.{items_in}
use Rattle.plan.specs.Nodes.{blank, grown}
use Rattle.plan.specs.Answers.{width_of}
use Rattle.plan.specs.Filling.{sides_fit, unfit_at}
use Rattle.plan.specs.Steps.{nodes_in, widths_in, starts_in}
use Rattle.plan.proofs.Firsts.{spots_at}
use Rattle.plan.proofs.Grown.{Agree, length_grown}
use Rattle.plan.proofs.Measures.{width_by_lem, unfit_by, measured}
use Rattle.plan.proofs.Stepping.{one_more}
use Rattle.plan.proofs.tree.Tree.measure.Goals as goal
use Rattle.plan.proofs.tree.Tree.measure.Goals.{then-width-gt8-via-then-width-gt8, then-width-gt8-via-else-width-gt8+then-not-sides_fit}

pub returns-then-width-gt8 : goal.returns-then-width-gt8
returns-then-width-gt8 c =
    let nodes = c.args.self.now.nodes.now in
    let all : List ℕ = grown width_of [] nodes in
    let k = c.loop-k.k in
    let ws = widths_in (items_in c.loop-k.steps) in
    let node = get_or nodes k blank in
    let l : k < length nodes = omega arith in
    let same : Agree 0 k ws all = λ j i. ap (λ xs. get_or xs j 0) c.loop-k.invariant.1 ∙ get_or-take k all j 0 i in
    let is = c.width_of-width.ensures ∙ ap (λ ss. width_of (widths_in ss) node) c.as_slice.ensures.items in
    let bad : (sides_fit ws node && leb (width_of ws node) 8) ≡ false = elim c.then-width-gt8.branch [
      | then-width-gt8-via-then-width-gt8 w ↦ and_right (sides_fit ws node) (leb (width_of ws node) 8) (lt-leb (width_of ws node) 8 (omega (arith, is, w.if-width-gt8.true)))
      | then-width-gt8-via-else-width-gt8+then-not-sides_fit w ↦ and_left (sides_fit ws node) (leb (width_of ws node) 8) (sym (w.if-not-sides_fit.ensures ∙ ap (λ ss. sides_fit (widths_in ss) node) w.as_slice-else-width-gt8.ensures.items))
    ] in
    spots_at (unfit_at nodes) (length nodes) k l (sym (unfit_by nodes c.args.self.now.early k l ws same) ∙ ap not bad) c.loop-k.invariant.3

pub loop-k-preserved : goal.loop-k-preserved
loop-k-preserved c =
    let nodes = c.args.self.now.nodes.now in
    let early = c.args.self.now.early in
    let all : List ℕ = grown width_of [] nodes in
    let k = c.loop-k.k in
    let steps = items_in c.loop-k.steps in
    let ws = widths_in steps in
    let node = get_or nodes k blank in
    let (stand, wide, zero, fits, narrow) = c.loop-k.invariant in
    let l : k < length nodes = omega arith in
    let same : Agree 0 k ws all = λ j i. ap (λ xs. get_or xs j 0) wide ∙ get_or-take k all j 0 i in
    let is = c.width_of-width.ensures ∙ ap (λ ss. width_of (widths_in ss) node) c.as_slice.ensures.items in
    let fit = c.if-not-sides_fit.ensures ∙ ap (λ ss. sides_fit (widths_in ss) node) c.as_slice-else-width-gt8.ensures.items in
    let good = and_from (sides_fit ws node) (leb (width_of ws node) 8) (sym fit) (le-leb (width_of ws node) 8 (omega (arith, is))) in (
      ap nodes_in c.push.ensures ∙ one_more (λ s. s.node) steps _ nodes k blank l stand refl,
      ap widths_in c.push.ensures ∙ one_more (λ s. s.width) steps _ all k 0 (omega (arith, length_grown width_of nodes)) wide (is ∙ width_by_lem nodes early k l ws same),
      ap starts_in c.push.ensures ∙ map-append (λ s. s.start) steps _ ∙ ap (λ l. l ++ (0 ∷ [])) zero ∙ replicate-append-replicate k 1 0,
      below_more (λ j. unfit_at nodes j ≡ false) k fits (sym (unfit_by nodes early k l ws same) ∙ ap not good),
      subst (All (λ step. step.width ≤ 8)) (sym c.push.ensures) (All-push (λ step. step.width ≤ 8) steps _ narrow (omega arith)),
    )

pub returns : goal.returns
returns c =
    let nodes = c.args.self.now.nodes.now in
    let k = c.loop-k.k in
    let (stand, wide, zero, fits, narrow) = c.loop-k.invariant in
    let all : k ≡ length nodes = omega arith in
    record {
      stand = stand ∙ take_all k nodes (omega arith);
      wide = measured nodes c.args.self.now.early (widths_in (items_in c.loop-k.steps)) (wide ∙ take_all k (grown width_of [] nodes) (omega (arith, length_grown width_of nodes))) (λ j h. fits j (omega arith));
      zero = zero ∙ ap (λ n. replicate n 0) all;
    }
