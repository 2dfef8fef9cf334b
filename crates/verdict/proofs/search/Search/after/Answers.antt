use Rattle.std.proofs.Common.{◌≡◌, ◌-◌, ◌<◌, true, [], length, get_or, take, sym, ap, ◌∙◌, subst, arith, length-take-le}
use Rattle.rules.specs.Views.{listed_as}
use Rattle.verdict.specs.Marking.{lists_of, is_in, lacks_only}
use Rattle.verdict.proofs.Hopeless.{free_last, next_left}
use Rattle.verdict.proofs.Shutting.{listed_at, within}
use Rattle.verdict.proofs.search.Search.after.Goals as goal

pub returns-then-is_free-clause-left : goal.returns-then-is_free-clause-left
returns-then-is_free-clause-left c =
    let cs = c.args.self.now.conflicts.now in
    let outs = c.args.self.now.outs.now in
    let choices = c.args.choices.now in
    let k = length choices - 1 in
    let front = take k choices in
    let choice = get_or choices k 0 in
    let some = c.requires.some in
    let few = c.requires.few in
    let long : length front ≡ k = length-take-le k choices (omega arith) in
    let next : length front < length outs = omega arith in
    let lt = c.requires.real k (omega arith) in
    let pe = c.places.ensures ∙ ap (λ x. (listed_as x).places) (sym c.index-self-choice.is) in
    let listed = listed_at cs choice c.index-self-choice.result lt c.index-self-choice.is c.places.result.now pe in
    let inside = within cs choice c.index-self-choice.result lt c.index-self-choice.is c.places.result.now pe in
    let free = subst (λ t. lacks_only (is_in c.lay.new.marks) (get_or outs k 0) t ≡ true) (sym listed) (sym c.if-is_free.ensures) in
    free_last (lists_of cs) c.args.self.now.ins.now outs front c.lay.new.marks c.lay.ensures.shows next choice (length cs) inside
    (subst (λ m. lacks_only (is_in c.lay.new.marks) (get_or outs m 0) (get_or (lists_of cs) choice []) ≡ true) (sym long) free)

pub returns-clause-left : goal.returns-clause-left
returns-clause-left c = next_left (lists_of c.args.self.now.conflicts.now) c.args.self.now.ins.now c.args.self.now.outs.now (take (length c.args.choices.now - 1) c.args.choices.now) (get_or c.args.choices.now (length c.args.choices.now - 1) 0)
