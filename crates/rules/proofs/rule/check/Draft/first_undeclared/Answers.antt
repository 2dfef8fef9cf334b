use Rattle.std.proofs.Common.{rules, tests}
use Rattle.store.proofs.Firsts.{first_from_position}
use Rattle.rules.specs.Refusals.{is_declared}
use Rattle.rules.proofs.Failing.{failing, fail_says}
use Rattle.rules.proofs.rule.check.Draft.first_undeclared.Goals as goal

pub returns : goal.returns
returns g c =
    let test = is_declared (g.S.Source.model c.args.self.now.source.now).arity in
    fail_says test c.args.self.now.atoms.now _ (first_from_position (failing test) c.args.self.now.atoms.now c.position.ensures.ran c.iter.ensures.rest (λ x b q k. search (rules, tests)))
