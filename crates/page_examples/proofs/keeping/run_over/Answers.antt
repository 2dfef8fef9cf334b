use Rattle.std.proofs.Common.{◌≡◌, ℕ, List, length, map, Ok, sym, ap, ◌∙◌, subst}
use Rattle.store.specs.Rows.{arity_in}
use Rattle.store.specs.Store.{Store}
use Rattle.book.specs.Books.{rules_of}
use Rattle.book.specs.Outcomes.{asked_by, SessionSays}
use Rattle.page.specs.Pages.{store_of}
use Rattle.page.specs.Sources.{page_model}
use Rattle.page.proofs.Opened.{opened_store}
use Rattle.page_examples.specs.Keeping.{KeepSays}
use Rattle.page_examples.proofs.Closing.{same_store, closed}
use Rattle.page_examples.proofs.keeping.run_over.Goals as goal

pub returns-clause-says : goal.returns-clause-says
returns-clause-says g c passes =
    let arities = c.args.arities.now in
    let told = g.R.Recorder.told in
    let was = told c.args.recorder.now in
    let is = told c.session.new.recorder in
    let askeds = map (asked_by (length c.args.marks.now) (length c.args.core.now) (length c.args.lines.now)) c.args.calls.now in
    let page = c.session.result.source in
    let rules = rules_of c.session.result.log in
    let start = opened_store c.args.bytes.now arities _ passes c.open-page.ensures.model in
    let same : arity_in page.arities ≡ arity_in arities = c.session.ensures.arity ∙ ap (λ (s : Store). s.arity) start in
    let law = subst (λ (s : Store). SessionSays was is askeds s (store_of page.bytes.now arities) rules) start
    (subst (λ (s : Store). SessionSays was is askeds (page_model c.open-page.result) s rules) (same_store page arities same) c.session.ensures.law) in
    subst (λ (after : List ℕ). KeepSays told c.args.recorder.now c.session.new.recorder askeds arities c.args.bytes.now after (Ok tt)) (sym page.whole) (passes, closed page arities same, (rules, law))
