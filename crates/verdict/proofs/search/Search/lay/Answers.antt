use Rattle.std.proofs.Common.{length, get_or, sym, ap, ◌∙◌, subst}
use Rattle.rules.specs.Views.{listed_as}
use Rattle.cores.specs.Backing.{without}
use Rattle.verdict.specs.Marking.{lists_of, NoneShut, Adds}
use Rattle.verdict.proofs.Laid.{none_shut, shows_ins, shows_more}
use Rattle.verdict.proofs.Shutting.{all_listed, listed_at}
use Rattle.verdict.proofs.search.Search.lay.Goals as goal

pub mark_others-requires-clause-inside : goal.mark_others-requires-clause-inside
mark_others-requires-clause-inside c =
    let choice = get_or c.args.choices.now c.loop-k.k 0 in
    all_listed c.args.self.now.conflicts.now choice c.index-self-choice.result (c.requires.real c.loop-k.k c.loop-k-test.true) c.index-self-choice.is c.places.result.now
    (c.places.ensures ∙ ap (λ x. (listed_as x).places) (sym c.index-self-choice.is)) c.args.self.now.inside

pub loop-k-init : goal.loop-k-init
loop-k-init c =
    let n = length c.args.marks.now in
    record {
      shows = shows_ins (lists_of c.args.self.now.conflicts.now) c.args.self.now.ins.now c.args.self.now.outs.now n c.mark_each.new.marks (subst (λ t. Adds c.args.self.now.ins.now t c.mark_each.new.marks) c.wipe.ensures c.mark_each.ensures);
      none = c.mark_each.ensures.shut (subst NoneShut (sym c.wipe.ensures) (none_shut n));
    }

pub loop-k-preserved : goal.loop-k-preserved
loop-k-preserved c =
    let cs = c.args.self.now.conflicts.now in
    let outs = c.args.self.now.outs.now in
    let k = c.loop-k.k in
    let choice = get_or c.args.choices.now k 0 in
    let listed = listed_at cs choice c.index-self-choice.result (c.requires.real k c.loop-k-test.true) c.index-self-choice.is c.places.result.now (c.places.ensures ∙ ap (λ x. (listed_as x).places) (sym c.index-self-choice.is)) in
    record {
      shows = shows_more (lists_of cs) c.args.self.now.ins.now outs c.args.choices.now c.loop-k.marks c.mark_others.new.marks k c.loop-k-test.true c.requires.few c.loop-k.invariant.shows
          (subst (λ t. Adds (without (get_or outs k 0) t) c.loop-k.marks c.mark_others.new.marks) (sym listed) c.mark_others.ensures);
      none = c.mark_others.ensures.shut c.loop-k.invariant.none;
    }
