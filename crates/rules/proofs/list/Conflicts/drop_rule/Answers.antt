use Rattle.std.proofs.Common.{ℕ, Bool, not, eqb, rules}
use Rattle.rules.specs.Listing.{Listed}
use Rattle.rules.specs.Views.{listed_as}
use Rattle.rules.proofs.Keeping.{kept_list, kept_rises}
use Rattle.rules.proofs.list.Conflicts.drop_rule.Goals as goal

abbrev stays : ℕ → Listed → Bool
stays r = λ c. not (eqb c.rule r)

pub invariant_of-self : goal.invariant_of-self
invariant_of-self c =
    let kept = c.retain.ensures (λ x. stays c.args.rule (listed_as x)) (λ x b k. search rules) in
    record { rising = kept_rises (stays c.args.rule) _ _ kept c.args.self.now.rising }

pub returns : goal.returns
returns c =
    let kept = c.retain.ensures (λ x. stays c.args.rule (listed_as x)) (λ x b k. search rules) in
    kept_list (stays c.args.rule) _ _ kept
