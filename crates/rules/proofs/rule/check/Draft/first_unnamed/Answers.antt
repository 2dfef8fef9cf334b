use Rattle.std.proofs.Common.{rules}
use Rattle.store.proofs.Firsts.{first_from_position}
use Rattle.rules.specs.Refusals.{names}
use Rattle.rules.proofs.Failing.{failing, fail_says}
use Rattle.rules.proofs.rule.check.Draft.first_unnamed.Goals as goal

pub returns : goal.returns
returns g c =
    let test = names (g.S.Source.model c.args.self.now.source.now).arity c.args.self.now.atoms.now in
    fail_says test c.args.comparisons.now _ (first_from_position (failing test) c.args.comparisons.now c.position.ensures.ran c.iter.ensures.rest (λ x b q k. search rules))
