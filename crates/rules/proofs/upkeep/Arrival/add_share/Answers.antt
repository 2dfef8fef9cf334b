use Rattle.std.proofs.Common.{get_or, None, length, ap, ◌∙◌, arith}
use Rattle.std.proofs.lemmas.Bool.{eq-eqb}
use Rattle.rules.specs.Entries.{listing}
use Rattle.rules.specs.Rules.{denial}
use Rattle.rules.proofs.Choosing.{choice_apart}
use Rattle.rules.proofs.Growing.{grown_none}
use Rattle.rules.proofs.Sharing.{atom_of, chosen_relation, next_atom}
use Rattle.rules.proofs.upkeep.Arrival.add_share.Goals as goal
use Rattle.rules.proofs.upkeep.Arrival.add_share.Goals.{then-relation-self+in_ok-run, else-relation-self}

pub loop-atom-preserved : goal.loop-atom-preserved
loop-atom-preserved g c =
    let self = c.args.self.now in
    let table = (g.S.Source.model self.source.now).places in
    let p = self.place in
    let atom = c.loop-atom.atom in
    let (grown, before) = c.loop-atom.invariant in
    elim c.if-relation-self.branch [
      | then-relation-self+in_ok-run w ↦
          let (more, here) = w.in_ok-run.ensures in
          next_atom p atom (ap listing w.list-is) grown before more (λ chosen ch is. here chosen ch (eq-eqb _ p is))
      | else-relation-self w ↦
          next_atom p atom (ap listing w.list-is) grown before (grown_none (listing c.loop-atom.list))
          (λ chosen ch is. absurd (w.if-relation-self.false (ap (λ l. get_or l atom 0) c.atoms-relation-items.ensures ∙ chosen_relation table ch atom (omega (arith, ap length c.atoms-relation-items.ensures)) self.row (ap (λ n. get_or table n None) is ∙ self.stands))))
    ]

pub returns : goal.returns
returns g c =
    let self = c.args.self.now in
    let table = (g.S.Source.model self.source.now).places in
    let rule = denial c.args.rule.now in
    let (grown, before) = c.loop-atom.invariant in (
      grown,
      λ chosen ch t. let (a, lt, is) = atom_of self.place chosen t in
          before a (omega (arith, (choice_apart table rule chosen ch).0, lt, ap length c.atoms-relation-items.ensures, c.loop-atom-test.false)) chosen ch is,
    )
