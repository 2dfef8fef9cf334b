use Rattle.std.proofs.Common.{ℕ, Bool, not, rules}
use Rattle.rules.specs.Listing.{Listed, touches}
use Rattle.rules.specs.Views.{listed_as}
use Rattle.rules.proofs.Keeping.{kept_list, kept_rises}
use Rattle.rules.proofs.list.Conflicts.drop_place.Goals as goal

abbrev stays : ℕ → Listed → Bool
stays p = λ c. not (touches p c)

pub invariant_of-self : goal.invariant_of-self
invariant_of-self c =
    let kept = c.retain.ensures (λ x. stays c.args.place (listed_as x)) (λ x b k. search rules) in
    record { rising = kept_rises (stays c.args.place) _ _ kept c.args.self.now.rising }

pub returns : goal.returns
returns c =
    let kept = c.retain.ensures (λ x. stays c.args.place (listed_as x)) (λ x b k. search rules) in
    kept_list (stays c.args.place) _ _ kept
