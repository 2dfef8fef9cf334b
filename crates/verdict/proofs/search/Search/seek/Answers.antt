use Rattle.std.proofs.Common.{◌≡◌, ◌+◌, ◌-◌, ◌<◌, ◌≤◌, length, get_or, take, sym, ◌∙◌, subst, arith}
use Rattle.std.proofs.lemmas.List.{length-map}
use Rattle.rules.specs.Views.{listed_as}
use Rattle.cores.specs.Searching.{NoneBeyond}
use Rattle.verdict.specs.Marking.{lists_of}
use Rattle.verdict.proofs.Hopeless.{next_left, unbound_stops}
use Rattle.verdict.proofs.Climbing.{front, long_front, go_next, fall_next, whole, go_down, fall_down, none, lower, back_left, fall_back, follows_last, at_last_one, le_after, lt_after}
use Rattle.verdict.proofs.search.Search.seek.Goals as goal

pub loop-choices-smaller-then-admits : goal.loop-choices-smaller-then-admits
loop-choices-smaller-then-admits c =
    let cs = c.args.self.now.conflicts.now in
    let C = lists_of cs in
    let ins = c.args.self.now.ins.now in
    let outs = c.args.self.now.outs.now in
    let xs = c.loop-choices.choices in
    let d = c.loop-choices.depth in
    let st = c.loop-choices.invariant.stack in
    let lt : get_or xs d 0 < length C = let h = c.loop-choices-test.true in omega (arith, length-map cs (λ x. (listed_as x).places)) in
    let adm = c.if-admits.ensures in
    let kept = c.first-then-admits.ensures (take (d + 1) xs) (long_front C ins outs xs d st) adm.stand in
    let room : d + 1 < length outs = let a = c.if-depth-self.false in let b = st.deep in omega arith in
    let fall = fall_down C ins outs xs d st lt c.admits.new.marks adm room c.first-then-admits.result kept in
    fall

pub loop-choices-preserved-then-admits : goal.loop-choices-preserved-then-admits
loop-choices-preserved-then-admits c =
    let cs = c.args.self.now.conflicts.now in
    let C = lists_of cs in
    let ins = c.args.self.now.ins.now in
    let outs = c.args.self.now.outs.now in
    let xs = c.loop-choices.choices in
    let d = c.loop-choices.depth in
    let st = c.loop-choices.invariant.stack in
    let lt : get_or xs d 0 < length C = let h = c.loop-choices-test.true in omega (arith, length-map cs (λ x. (listed_as x).places)) in
    let adm = c.if-admits.ensures in
    let kept = c.first-then-admits.ensures (take (d + 1) xs) (long_front C ins outs xs d st) adm.stand in
    let room : d + 1 < length outs = let a = c.if-depth-self.false in let b = st.deep in omega arith in
    let fall = fall_down C ins outs xs d st lt c.admits.new.marks adm room c.first-then-admits.result kept in
    record {
      stack = go_down C ins outs xs d st lt c.admits.new.marks adm room c.first-then-admits.result kept;
      less = le_after _ _ _ fall c.loop-choices.invariant.less;
    }

pub loop-choices-smaller : goal.loop-choices-smaller
loop-choices-smaller c =
    let cs = c.args.self.now.conflicts.now in
    let C = lists_of cs in
    let ins = c.args.self.now.ins.now in
    let outs = c.args.self.now.outs.now in
    let xs = c.loop-choices.choices in
    let d = c.loop-choices.depth in
    let st = c.loop-choices.invariant.stack in
    let lt : get_or xs d 0 < length C = let h = c.loop-choices-test.true in omega (arith, length-map cs (λ x. (listed_as x).places)) in
    let kept = next_left C ins outs (take d xs) (get_or xs d 0) (subst (NoneBeyond C ins outs) (front C ins outs xs d st) c.if-admits.ensures) (st.left d (omega arith)) in
    let fall = fall_next C ins outs xs d st (get_or xs d 0 + 1) kept lt (omega arith) in
    fall

pub loop-choices-preserved : goal.loop-choices-preserved
loop-choices-preserved c =
    let cs = c.args.self.now.conflicts.now in
    let C = lists_of cs in
    let ins = c.args.self.now.ins.now in
    let outs = c.args.self.now.outs.now in
    let xs = c.loop-choices.choices in
    let d = c.loop-choices.depth in
    let st = c.loop-choices.invariant.stack in
    let lt : get_or xs d 0 < length C = let h = c.loop-choices-test.true in omega (arith, length-map cs (λ x. (listed_as x).places)) in
    let kept = next_left C ins outs (take d xs) (get_or xs d 0) (subst (NoneBeyond C ins outs) (front C ins outs xs d st) c.if-admits.ensures) (st.left d (omega arith)) in
    let fall = fall_next C ins outs xs d st (get_or xs d 0 + 1) kept lt (omega arith) in
    record {
      stack = go_next C ins outs xs d st (get_or xs d 0 + 1) kept;
      less = le_after _ _ _ fall c.loop-choices.invariant.less;
    }

pub found-smaller : goal.found-smaller
found-smaller c =
    let cs = c.args.self.now.conflicts.now in
    let C = lists_of cs in
    let ins = c.args.self.now.ins.now in
    let outs = c.args.self.now.outs.now in
    let xs = c.loop-choices.choices in
    let d = c.loop-choices.depth in
    let st = c.loop-choices.invariant.stack in
    let e = d - 1 in
    let up : d ≡ e + 1 = let a = c.if-depth-eq0.false in omega arith in
    let spent = let h = c.loop-choices-test.false in let s : length C ≤ get_or xs d 0 = omega (arith, length-map cs (λ x. (listed_as x).places)) in s in
    let low = lower C ins outs xs d st spent e up in
    let inside : e < length xs = let a = low.size in let b = low.few in let f = low.deep in omega arith in
    let kept = back_left C ins outs xs d st spent e up c.after.result (follows_last xs e inside C ins outs c.after.result c.after.ensures.left) in
    let more : get_or xs e 0 < c.after.result = subst (λ n. n < c.after.result) (at_last_one xs e inside) c.after.ensures.more in
    lt_after _ _ _ (fall_back C ins outs xs d st spent e up c.after.result more) c.loop-choices.invariant.less

pub found-preserved : goal.found-preserved
found-preserved c =
    let cs = c.args.self.now.conflicts.now in
    let C = lists_of cs in
    let ins = c.args.self.now.ins.now in
    let outs = c.args.self.now.outs.now in
    let xs = c.loop-choices.choices in
    let d = c.loop-choices.depth in
    let st = c.loop-choices.invariant.stack in
    let e = d - 1 in
    let up : d ≡ e + 1 = let a = c.if-depth-eq0.false in omega arith in
    let spent = let h = c.loop-choices-test.false in let s : length C ≤ get_or xs d 0 = omega (arith, length-map cs (λ x. (listed_as x).places)) in s in
    let low = lower C ins outs xs d st spent e up in
    let inside : e < length xs = let a = low.size in let b = low.few in let f = low.deep in omega arith in
    let kept = back_left C ins outs xs d st spent e up c.after.result (follows_last xs e inside C ins outs c.after.result c.after.ensures.left) in
    go_next C ins outs xs e low c.after.result kept

pub returns-then-depth-self : goal.returns-then-depth-self
returns-then-depth-self c =
    let cs = c.args.self.now.conflicts.now in
    let C = lists_of cs in
    let ins = c.args.self.now.ins.now in
    let outs = c.args.self.now.outs.now in
    let xs = c.loop-choices.choices in
    let d = c.loop-choices.depth in
    let st = c.loop-choices.invariant.stack in
    let lt : get_or xs d 0 < length C = let h = c.loop-choices-test.true in omega (arith, length-map cs (λ x. (listed_as x).places)) in
    whole C ins outs xs d st lt c.admits.new.marks c.if-admits.ensures c.if-depth-self.true

pub returns-then-depth-eq0 : goal.returns-then-depth-eq0
returns-then-depth-eq0 c =
    let cs = c.args.self.now.conflicts.now in
    let C = lists_of cs in
    let ins = c.args.self.now.ins.now in
    let outs = c.args.self.now.outs.now in
    let xs = c.loop-choices.choices in
    let d = c.loop-choices.depth in
    let st = c.loop-choices.invariant.stack in
    none C ins outs xs d st (let h = c.loop-choices-test.false in omega (arith, length-map cs (λ x. (listed_as x).places))) c.if-depth-eq0.true

pub returns-then-not-are_bound : goal.returns-then-not-are_bound
returns-then-not-are_bound c = unbound_stops c.args.self.now.conflicts.now c.args.self.now.ins.now c.args.self.now.outs.now (sym c.are_bound.ensures ∙ c.if-not-are_bound.true)
