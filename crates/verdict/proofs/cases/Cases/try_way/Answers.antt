use Rattle.std.proofs.Common.{◌≤◌, not, length, sym, ap, ◌∙◌, subst, arith, MatchBool}
use Rattle.cores.specs.Settling.{lost_by}
use Rattle.verdict.specs.Marking.{lists_of, have_bytes}
use Rattle.verdict.specs.Trying.{Lost, Kept}
use Rattle.verdict.proofs.Siding.{ins_bytes, way_says}
use Rattle.verdict.proofs.cases.Cases.try_way.Goals as goal

pub invariant_of-search : goal.invariant_of-search
invariant_of-search c = record {
  inside = c.args.self.now.inside;
  near = ap have_bytes (c.as_slice.ensures.items ∙ c.in-Some.ensures.ins) ∙ ins_bytes c.args.self.now.leaves.now c.way_of-way.result c.args.self.now.near;
  few = let h = c.as_slice-2.ensures.within in omega arith;
}

pub returns : goal.returns
returns c =
    let C = lists_of c.args.self.now.conflicts.now in
    let lost = lost_by c.args.self.now.plan.now c.args.self.now.line.now.columns in
    let leaves = c.args.self.now.leaves.now in
    let way = c.way_of-way.result in
    let six = c.args.self.now.six in
    let long : length leaves ≤ length way = omega (arith, ap length c.way_of-way.ensures) in
    subst (λ w. MatchBool c.find.result (Lost C lost leaves c.find.new.marks) (Kept C lost leaves w)) c.way_of-way.ensures
    (way_says C lost leaves way c.as_slice.result.now c.as_slice-2.result.now c.find.new.marks (ap not (sym c.if-holds.ensures.told)) c.in-Some.ensures.may long c.find.result
    (c.as_slice.ensures.items ∙ c.in-Some.ensures.ins) (c.as_slice-2.ensures.items ∙ c.in-Some.ensures.outs) c.find.ensures)
