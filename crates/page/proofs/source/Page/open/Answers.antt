use Rattle.std.proofs.Common.{◌≡◌, true, false, [], Ok, Err, None, Result, sym, refl, ◌∙◌}
use Rattle.std.proofs.lemmas.Bool.{both_ways}
use Rattle.std.proofs.lemmas.Option.{none-some}
use Rattle.std.specs.Result.{is_err, result_err}
use Rattle.page.proofs.Opened.{page_none, same_check}
use Rattle.page.proofs.Standing.{carried}
use Rattle.page.proofs.source.Page.open.Goals as goal

refused : {T E : Type 0} (r : Result T E) → is_err r ≡ true → result_err r ≡ None → ⊥
refused (Ok x) err none = both_ways false refl err
refused (Err e) err none = none-some e (sym none)

pub invariant_of-result : goal.invariant_of-result
invariant_of-result c = carried [] c.declared-arities.result (page_none c.declared-arities.result)

pub returns-then-is_err-clause-lent : goal.returns-then-is_err-clause-lent
returns-then-is_err-clause-lent c = λ none. absurd (refused c.check.result (sym c.if-is_err.ensures.value) (c.check.ensures.says ∙ same_check c.args.bytes.now _ _ c.declared-arities.ensures ∙ none))
