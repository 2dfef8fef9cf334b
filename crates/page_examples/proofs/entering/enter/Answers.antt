use Rattle.std.proofs.Common.{◌≡◌, None, sym, ap, ◌∙◌, subst, rules}
use Rattle.store.proofs.Handed.{handed_on}
use Rattle.store.specs.Store.{Store, put_refusal}
use Rattle.page.specs.Checks.{check_refusal}
use Rattle.page.proofs.Opened.{opened_store}
use Rattle.page_examples.specs.Entering.{EnterSays}
use Rattle.page_examples.proofs.entering.enter.Goals as goal

pub returns-in_err-place : goal.returns-in_err-place
returns-in_err-place c =
    let passes : check_refusal c.args.bytes.now c.args.arities.now ≡ None = sym c.in_ok-check.ensures.says in
    let same = opened_store c.args.bytes.now c.args.arities.now _ passes c.open-page.ensures.model in
    subst (EnterSays c.args.bytes.now _ c.args.arities.now c.args.row.now) (sym (handed_on c.from_residual-in_err-place.result c.from_residual-in_err-place.ensures.1)) ((passes, ap (λ (s : Store). put_refusal s c.args.row.now) (sym same) ∙ c.in_err-place.ensures.says.1), search rules)

pub returns : goal.returns
returns c =
    let passes : check_refusal c.args.bytes.now c.args.arities.now ≡ None = sym c.in_ok-check.ensures.says in
    let same = opened_store c.args.bytes.now c.args.arities.now _ passes c.open-page.ensures.model in
    (passes, ap (λ (s : Store). put_refusal s c.args.row.now) (sym same) ∙ c.in_ok-place.ensures.says.granted, search rules)
