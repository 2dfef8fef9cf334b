-- The conflicts with and without the last rule.
use Rattle.std.proofs.Common.{false, ltb, [], ◌∷◌, ◌++◌, length, sym, ◌∙◌, arith}
use Rattle.rules.specs.Listing.{forbids, is_conflict}
use Rattle.rules.specs.Choosing.{up_to}
use Rattle.rules.specs.Laws.{OneRuleMore, OneRuleLess, RuleStarts, RuleUndone}
use Rattle.rules.proofs.Firsts.{first_more, first_less}
use Rattle.rules.proofs.Listings.{lists_like, lists_kept}

pub one_rule_more : OneRuleMore
one_rule_more table rules rule c = let first = first_more (forbids table c.places) rule rules c.rule in grind arith

pub one_rule_less : OneRuleLess
one_rule_less table rules rule c = let first = first_less (forbids table c.places) rule rules c.rule in grind arith

pub rule_starts : RuleStarts
rule_starts table rules rule listed ls =
    lists_like (is_conflict table rules) (up_to table (rules ++ (rule ∷ [])) (λ places. false) (length rules)) (one_rule_less table rules rule) listed ls

pub rule_undone : RuleUndone
rule_undone table rules rule listed so =
    lists_kept (is_conflict table (rules ++ (rule ∷ []))) (λ c. ltb c.rule (length rules)) (is_conflict table rules) (one_rule_less table rules rule) listed
    (record { right = so.right; full = λ c h. so.full c (sym (one_rule_less table rules rule c) ∙ h); once = so.once })
