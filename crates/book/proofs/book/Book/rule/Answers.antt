use Rattle.std.proofs.Common.{◌≡◌, true, ltb, [], ◌∷◌, ◌++◌, length, Ok, Err, sym, refl, ap, ◌∙◌, subst, arith, rules as search_rules}
use Rattle.std.proofs.lemmas.Result.{err_from_is_err_and}
use Rattle.std.proofs.lemmas.Bool.{lt-ltb}
use Rattle.store.specs.Held.{rows_of}
use Rattle.rules.specs.Rules.{Denial, denial, AtMost}
use Rattle.book.specs.Books.{rules_of}
use Rattle.book.specs.Calls.{RuleSays}
use Rattle.book.specs.declared.refusal.Refusal.TheVariants.{RuleConflicts}
use Rattle.book.proofs.Lives.{rule_lives}
use Rattle.book.proofs.Told.{rule_taken, rule_refused}
use Rattle.book.proofs.Tested.{exact_of, right_of, full_of}
use Rattle.book.proofs.Upheld.{few_listed, how_many, still_exact}
use Rattle.book.proofs.book.Book.rule.Goals as goal
use Rattle.book.proofs.book.Book.rule.Goals.{Else-number-ge-MOST_RULES}
use Rattle.book.proofs.book.Book.rule.Given as given

-- there are fewer than sixteen rules
room : (g : given.Over) (c : Else-number-ge-MOST_RULES g) → ltb (length (rules_of c.args.self.now.log)) 16 ≡ true
room g c = lt-ltb _ 16 (omega (arith, how_many c.args.self.now.log))

pub returns-in_err-map_err : goal.returns-in_err-map_err
returns-in_err-map_err g c =
    let b = c.args.self.now in
    let rules = rules_of b.log in
    let log = c.add_rule.new.self in
    let s = g.S.Source.model b.source in
    let rule : Denial = record { atoms = c.args.atoms.now; comparisons = c.args.comparisons.now } in
    let made = c.in_ok-rule.ensures in
    let (f, is, full) = rule_refused s b.log log (denial c.in_ok-rule.rule) c.add_rule.result c.map_err.result _ _ c.in_err-map_err.was c.map_err.ensures.variant c.map_err.ensures.cases (λ f d k. search search_rules) c.add_rule.ensures in
    let p = err_from_is_err_and c.from_residual-in_err-map_err.result c.from_residual-in_err-map_err.ensures.1 in
    let many = subst (λ (d : Denial). AtMost 1024 (rows_of s.places) (rules ++ (d ∷ [])) → ⊥) made.1 full.2 in
    let told : c.from_residual-in_err-map_err.result ≡ Err RuleConflicts = p.1 ∙ ap Err (p.2 ∙ is) in
    let says = subst (RuleSays s rules (rules_of log) rule) (sym told) (full.0, room g (goal.at.returns-in_err-map_err g c).Else-number-ge-MOST_RULES, made.0, many) in
    record { source = refl; says = says; law = rule_lives s rules (rules_of log) rule c.from_residual-in_err-map_err.result says }

pub returns : goal.returns
returns g c =
    let b = c.args.self.now in
    let rules = rules_of b.log in
    let log = c.add_rule.new.self in
    let s = g.S.Source.model b.source in
    let rule : Denial = record { atoms = c.args.atoms.now; comparisons = c.args.comparisons.now } in
    let made = c.in_ok-rule.ensures in
    let added = rule_taken s b.log log (denial c.in_ok-rule.rule) c.add_rule.result c.map_err.result tt c.in_ok-map_err.was c.map_err.ensures.variant c.add_rule.ensures in
    let last : rules_of log ≡ rules ++ (rule ∷ []) = added.0 ∙ ap (λ (d : Denial). rules ++ (d ∷ [])) made.1 in
    let once = (g.met.S.Source.keeps b.source).once in
    let number = c.len-number.ensures.length ∙ sym (how_many b.log) in
    let says : RuleSays s rules (rules_of log) rule (Ok c.len-number.result) =
    (number, ap (λ k. ltb k 16) number ∙ room g (goal.at.returns g c).Else-number-ge-MOST_RULES, made.0, last, few_listed s once (rules_of log) log.conflicts added.1) in
    record { source = refl; says = says; law = rule_lives s rules (rules_of log) rule (Ok c.len-number.result) says }

pub add_rule-requires-clause-exact : goal.add_rule-requires-clause-exact
add_rule-requires-clause-exact g c = let b = c.args.self.now in exact_of (g.S.Source.model b.source) b.log b.right b.full b.once

pub invariant_of-self : goal.invariant_of-self
invariant_of-self g c =
    let b = c.args.self.now in
    let s = g.S.Source.model b.source in
    let log = c.add_rule.new.self in
    let exact = still_exact s b.log log (denial c.in_ok-rule.rule) c.add_rule.result c.add_rule.ensures (exact_of s b.log b.right b.full b.once) in
    record { right = right_of s log exact; full = full_of s log exact; once = exact.once }
