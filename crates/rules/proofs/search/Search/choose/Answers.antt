use Rattle.std.proofs.Common.{◌≡◌, get_or, Some, None, sym, subst, ap, ◌∙◌, rules}
use Rattle.store.specs.Lists.{all}
use Rattle.rules.specs.Beginnings.{rows_of_picks, holds_at_last, ChooseSays}
use Rattle.rules.specs.Rules.{denial}
use Rattle.rules.proofs.Fews.{next_read}
use Rattle.rules.proofs.Pushing.{other_relation, chosen_already, choose_says}
use Rattle.rules.proofs.search.Search.choose.Goals as goal
use Rattle.rules.proofs.search.Search.choose.Goals.{then-row-atoms-via-then-row-atoms, then-row-atoms-via-else-row-atoms+then-has}

pub returns-then-row-atoms : goal.returns-then-row-atoms
returns-then-row-atoms g c =
    let chosen = c.args.chosen.now in
    let p = c.args.place in
    let stands : get_or (g.S.Source.model c.args.self.now.source.now).places p None ≡ Some c.in_ok-row.row = search rules in
    let atom = next_read chosen c.atoms.ensures c.len.ensures.length in
    elim c.then-row-atoms.branch [
      | then-row-atoms-via-then-row-atoms w ↦ other_relation c.requires.begun p c.in_ok-row.row stands (λ e. w.if-row-atoms.true (e ∙ sym atom))
      | then-row-atoms-via-else-row-atoms+then-has w ↦ chosen_already c.requires.begun p c.in_ok-row.row stands (sym w.if-has.ensures)
    ]

pub returns : goal.returns
returns g c =
    let chosen = c.args.chosen.now in
    let table = (g.S.Source.model c.args.self.now.source.now).places in
    let rule = denial c.args.self.now.rule.now in
    let p = c.args.place in
    let kept = g.met.S.Source.keeps c.args.self.now.source.now in
    let stands : get_or table p None ≡ Some c.in_ok-row.row = search rules in
    let atom = next_read chosen c.atoms.ensures c.len.ensures.length in
    let last = c.holds_at_last.ensures ∙ ap (λ l. all (holds_at_last (rows_of_picks l)) rule.comparisons) c.as_slice.ensures.items in
    subst (ChooseSays table rule chosen p) (sym c.then_some.ensures)
    (choose_says c.requires.begun p c.in_ok-row.row stands c.push.new.self c.push.ensures kept.once c.requires.room (c.if-row-atoms.false ∙ atom) (sym c.if-has.ensures) _ last)
