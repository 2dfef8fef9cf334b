use Rattle.std.proofs.Common.{[], refl, arith, below_more}
use Rattle.std.proofs.lemmas.List.{length-map}
use Rattle.rules.specs.Views.{listed_as}
use Rattle.cores.specs.Backing.{backing}
use Rattle.cores.proofs.Turning.{each_tried}
use Rattle.verdict.specs.Marking.{lists_of}
use Rattle.verdict.proofs.search.Search.can_start.Goals as goal

pub loop-choice-preserved : goal.loop-choice-preserved
loop-choice-preserved c = below_more _ _ c.loop-choice.invariant c.if-admits.ensures

pub returns : goal.returns
returns c =
    let cs = c.args.self.now.conflicts.now in
    let C = lists_of cs in
    let ins = c.args.self.now.ins.now in
    let outs = c.args.self.now.outs.now in
    each_tried C ins outs [] (backing C ins outs []) (λ p. refl) c.requires.some (λ b within fits. c.loop-choice.invariant b (let e = c.loop-choice-test.false in omega (arith, length-map cs (λ x. (listed_as x).places))))
