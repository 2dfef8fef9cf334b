-- What a page is opened with: arities that read the same, and no bytes where they are refused.
use Rattle.std.proofs.Common.{◌≡◌, ℕ, ◌%◌, cond, eqb, leb, List, [], length, is_some, None, Option, refl, ap, ◌∙◌, arith}
use Rattle.fault.specs.Questions.{ask}
use Rattle.store.specs.Keeping.{keeps_of}
use Rattle.store.specs.Rows.{arity_in}
use Rattle.store.specs.Store.{Store}
use Rattle.store.proofs.Places.{once_none, fit_none}
use Rattle.page.specs.Checks.{record_refusal, check_refusal, IsPage}
use Rattle.page.specs.Pages.{records_of, places_of, page_of, store_of}
use Rattle.page.specs.Sources.{opened}
use Rattle.page.specs.declared.refusal.Refusal.{Refusal}
use Rattle.page.specs.declared.refusal.Refusal.TheVariants.{NotWhole, TooLong}

-- arities that read the same are the same function
pub same_arities : (kept arities : List ℕ) → ((relation : ℕ) → arity_in kept relation ≡ arity_in arities relation) → arity_in kept ≡ arity_in arities
same_arities kept arities same = λ i relation. same relation i

-- so they refuse the same bytes
pub same_check : (bytes kept arities : List ℕ) → ((relation : ℕ) → arity_in kept relation ≡ arity_in arities relation) → check_refusal bytes kept ≡ check_refusal bytes arities
same_check bytes kept arities same = ap (λ (a : ℕ → ℕ). ask (eqb (length bytes % 20) 0) NotWhole (ask (leb (length bytes) 5120) TooLong (record_refusal a (records_of bytes)))) (same_arities kept arities same)

pub page_none : (arities : List ℕ) → IsPage [] arities
unfolding records_of places_of page_of
page_none arities = record { passes = refl; whole = refl; kept = keeps_of arities [] (omega arith) (fit_none arities 0) (once_none 0) }

-- a source that was opened over bytes that pass is the source of these bytes
pub opened_store : (bytes arities : List ℕ) (s : Store) → check_refusal bytes arities ≡ None → s ≡ store_of (opened bytes arities) arities → s ≡ store_of bytes arities
opened_store bytes arities s passes e = e ∙ ap (λ (said : Option Refusal). store_of (cond (is_some said) [] bytes) arities) passes
