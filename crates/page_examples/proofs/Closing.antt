-- What the bytes behind a page are, where its arities read as others do.
use Rattle.std.proofs.Common.{◌≡◌, ℕ, false, List, is_some, None, Option, Some, sym, refl, ◌∙◌, subst}
use Rattle.store.specs.Rows.{arity_in}
use Rattle.store.specs.Store.{Kept}
use Rattle.page.specs.Checks.{check_refusal, IsPage}
use Rattle.page.specs.Pages.{places_of, store_of}
use Rattle.page.specs.Sources.{page_model, page_keeps}
use Rattle.page.specs.declared.source.Page.{Page}
use Rattle.page.proofs.Opened.{same_check}

none_there : {A : Type 0} (o : Option A) → is_some o ≡ false → o ≡ None
none_there None e = refl
none_there (Some x) e = cc

module _ (p : Page) (arities : List ℕ) (same : arity_in p.arities ≡ arity_in arities) where
  pub same_store : page_model p ≡ store_of p.bytes.now arities
  same_store = λ i. record { arity = same i; places = places_of p.bytes.now }

  pub closed : IsPage p.bytes.now arities
  closed = record {
    passes = sym (same_check p.bytes.now p.arities arities (λ relation i. same i relation)) ∙ none_there (check_refusal p.bytes.now p.arities) p.passes;
    whole = p.whole;
    kept = subst Kept same_store (page_keeps p);
  }
