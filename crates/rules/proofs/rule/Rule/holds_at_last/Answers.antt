use Rattle.std.proofs.Common.{◌≡◌, true, subst, sym, ◌∙◌, rules}
use Rattle.std.proofs.lemmas.Iterator.{YieldsList-from_slice}
use Rattle.std.proofs.lemmas.Iterator.Adapters.{serves_from_places}
use Rattle.rules.specs.Comparisons.{within}
use Rattle.rules.specs.Rules.{denial}
use Rattle.rules.proofs.Naming.{within_three}
use Rattle.rules.proofs.rule.Rule.holds_at_last.Goals as goal

pub all-requires-clause-callable : goal.all-requires-clause-callable
all-requires-clause-callable c =
    let r = c.args.self.now in
    serves_from_places (YieldsList-from_slice (denial r).comparisons (c.iter.ensures.rest ∙ c.as_slice.ensures.items)) (λ x q k. search rules)
    (λ x k lt is.
    let named : within 3 x.now ≡ true = subst (λ z. within 3 z ≡ true) (sym is) (within_three r k x.now lt) in
    search rules)
