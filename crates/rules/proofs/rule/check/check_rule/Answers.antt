use Rattle.std.proofs.Common.{◌≡◌, ◌<◌, true, length, rules}
use Rattle.store.specs.Lists.{all}
use Rattle.rules.specs.Refusals.{names}
use Rattle.rules.proofs.Naming.{all_within}
use Rattle.rules.proofs.rule.check.check_rule.Goals as goal

pub invariant_of-result : goal.invariant_of-result
invariant_of-result g c =
    let arity = (g.S.Source.model c.args.source.now).arity in
    let atoms = c.args.atoms.now in
    let comparisons = c.args.comparisons.now in
    let named : all (names arity atoms) comparisons ≡ true = search rules in
    let some : 0 < length atoms = search rules in
    rw (c.of.ensures, c.of-2.ensures) record { some = some; named = all_within arity (g.met.S.Source.keeps c.args.source.now).narrow atoms comparisons named }
