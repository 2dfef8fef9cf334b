use Rattle.std.proofs.Common.{◌≡◌, [], ◌∷◌, ◌++◌, ap, ◌∙◌, subst, arith}
use Rattle.std.proofs.lemmas.List.{length-map}
use Rattle.ordered.specs.Lists.{items_in}
use Rattle.rules.specs.Views.{listed_as}
use Rattle.verdict.specs.Marking.{lists_of}
use Rattle.verdict.specs.Trying.{Admits}
use Rattle.verdict.proofs.Straight.{one_longer, chosen_more}
use Rattle.verdict.proofs.search.Search.with_next.Goals as goal

pub returns-then-admits : goal.returns-then-admits
returns-then-admits c =
    let cs = c.args.self.now.conflicts.now in
    let C = lists_of cs in
    let ins = c.args.self.now.ins.now in
    let outs = c.args.self.now.outs.now in
    let chosen = c.args.choices.now in
    let choice = c.loop-choice.choice in
    let marks = c.admits.new.marks in
    let is : items_in c.push.new.self ≡ chosen ++ choice ∷ [] = c.push.ensures ∙ ap (λ t. t ++ choice ∷ []) c.of-more.ensures in
    rw is (
      one_longer chosen choice,
      chosen_more C ins outs chosen marks choice c.requires.real (let h = c.loop-choice-test.true in omega (arith, length-map cs (λ x. (listed_as x).places)))
          (subst (λ t. Admits C ins outs t marks) (c.as_slice.ensures.items ∙ is) c.if-admits.ensures),
    )
