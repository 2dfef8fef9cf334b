use Rattle.std.proofs.Common.{◌+◌, length, ap, ◌∙◌, sym, subst, arith}
use Rattle.cores.specs.Backing.{Real}
use Rattle.verdict.specs.Marking.{lists_of}
use Rattle.verdict.specs.Trying.{Chosen}
use Rattle.verdict.proofs.Straight.{none_chosen, all_chosen}
use Rattle.verdict.proofs.search.Search.finds_straight.Goals as goal

pub loop-init : goal.loop-init
loop-init c =
    let C = lists_of c.args.self.now.conflicts.now in
    let ins = c.args.self.now.ins.now in
    let outs = c.args.self.now.outs.now in
    record {
      each = ap length c.new-choices.ensures;
      chosen = subst (λ t. Chosen C ins outs t c.stands.new.marks) (sym c.new-choices.ensures) (none_chosen C ins outs c.stands.new.marks c.if-not-stands.ensures);
    }

pub with_next-requires-clause-few : goal.with_next-requires-clause-few
with_next-requires-clause-few c = let h = c.loop-test.true in omega (arith, c.loop.invariant.each, ap length c.as_slice.ensures.items)

pub with_next-requires-clause-real : goal.with_next-requires-clause-real
with_next-requires-clause-real c =
    subst (Real (lists_of c.args.self.now.conflicts.now) c.args.self.now.outs.now) (sym c.as_slice.ensures.items) c.loop.invariant.chosen.real

pub loop-preserved : goal.loop-preserved
loop-preserved c = record {
  each = c.in-Some.ensures.0 ∙ ap (λ n. n + 1) (ap length c.as_slice.ensures.items ∙ c.loop.invariant.each);
  chosen = c.in-Some.ensures.1;
}

pub returns : goal.returns
returns c =
    all_chosen (lists_of c.args.self.now.conflicts.now) c.args.self.now.ins.now c.args.self.now.outs.now _ c.loop.marks
    (let h = c.loop-test.false in omega (arith, c.loop.invariant.each)) c.loop.invariant.chosen
