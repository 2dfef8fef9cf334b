use Rattle.std.proofs.Common.{◌≡◌, Ok, Err, refl, ap, ap₂, rules}
use Rattle.store.specs.Tables.{table_model}
use Rattle.rules.specs.Rules.{Denial}
use Rattle.commands.specs.Rules.{written}
use Rattle.script.proofs.Answering.{ruled_says}
use Rattle.script.proofs.counter.Counter.rule.Goals as goal

pub returns-in_err-rule-clause-says : goal.returns-in_err-rule-clause-says
returns-in_err-rule-clause-says c =
    let e = c.in_err-rule.ensures in
    let same : ◌≡◌ {A = Denial} (record { atoms = c.atoms.result.now; comparisons = c.comparisons.result.now }) (written c.args.text.now) = ap₂ (λ a b. record { atoms = a; comparisons = b }) c.atoms.ensures c.comparisons.ensures in
    ruled_says _ _ c.args.self.now.sheet _ _ _ _ _ (Err c.in_err-rule.field-0.0) (ap table_model e.source) same e.says e.law (search rules)

pub returns-clause-says : goal.returns-clause-says
returns-clause-says c =
    let e = c.in_ok-rule.ensures in
    let same : ◌≡◌ {A = Denial} (record { atoms = c.atoms.result.now; comparisons = c.comparisons.result.now }) (written c.args.text.now) = ap₂ (λ a b. record { atoms = a; comparisons = b }) c.atoms.ensures c.comparisons.ensures in
    ruled_says _ _ c.args.self.now.sheet _ _ _ _ _ (Ok c.in_ok-rule.field-0) (ap table_model e.source) same e.says e.law refl
