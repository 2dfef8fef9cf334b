use Rattle.std.proofs.Common.{rules, ◌≡◌, true, length, ap₂, sym, ◌∙◌, append-nil, ap, arith, ◌++◌}
use Rattle.std.proofs.lemmas.List.{at_drop_all}
use Rattle.std.proofs.lemmas.Bool.{or_left, or_right, le-leb, lt-ltb, eq-eqb}
use Rattle.ordered.specs.Lists.{items_in}
use Rattle.plan.specs.Gathering.{leaves_from}
use Rattle.plan.specs.Filling.{poor, poor_at}
use Rattle.plan.specs.declared.node.Node.TheVariants.{Leaf}
use Rattle.plan.proofs.Firsts.{spots_at, first_none}
use Rattle.plan.proofs.tree.Tree.leaves.Goals as goal
use Rattle.plan.proofs.tree.Tree.leaves.Goals.{then-len-ge6-via-then-len-ge6, then-len-ge6-via-else-len-ge6+then-arity-eq0, then-len-ge6-via-else-len-ge6+else-arity-eq0+then-arity-gt4, then-len-ge6-via-else-len-ge6+else-arity-eq0+else-arity-gt4+then-width-eq0}

pub returns-then-len-ge6 : goal.returns-then-len-ge6
returns-then-len-ge6 c =
    let nodes = c.args.self.now.nodes.now in
    let l = c.in-Leaf in
    let count = length (items_in c.loop-k.leaves) in
    let fails : poor count (Leaf l.relation l.arity l.fields) ≡ true = elim c.then-len-ge6.branch [
      | then-len-ge6-via-then-len-ge6 w ↦ search (rules, or_left, or_right, le-leb, lt-ltb, eq-eqb)
      | then-len-ge6-via-else-len-ge6+then-arity-eq0 w ↦ search (rules, or_left, or_right, le-leb, lt-ltb, eq-eqb)
      | then-len-ge6-via-else-len-ge6+else-arity-eq0+then-arity-gt4 w ↦ search (rules, or_left, or_right, le-leb, lt-ltb, eq-eqb)
      | then-len-ge6-via-else-len-ge6+else-arity-eq0+else-arity-gt4+then-width-eq0 w ↦ search (rules, or_left, or_right, le-leb, lt-ltb, eq-eqb)
    ] in
    spots_at (poor_at nodes) (length nodes) c.loop-k.k (omega arith) (ap₂ poor (sym c.loop-k.invariant.1) l.is ∙ fails) c.loop-k.invariant.0

pub returns : goal.returns
returns c =
    let nodes = c.args.self.now.nodes.now in
    let k = c.loop-k.k in
    let (none, _, stand) = c.loop-k.invariant in
    record {
      none = first_none (poor_at nodes) (length nodes) (λ j h. none j (omega arith));
      stand = sym (append-nil _) ∙ ap (λ r. items_in c.loop-k.leaves ++ r) (sym (at_drop_all (leaves_from k) nodes k (omega arith))) ∙ stand;
    }
