-- What a call that puts a row into a page tells, and what becomes of the bytes.
use Rattle.std.specs.Prelude.{◌≡◌, ℕ, List, Some, None, Ok, Err, Result, slice_set}
use Rattle.store.specs.Store.{put_refusal}
use Rattle.store.specs.declared.row.Row.{Row}
use Rattle.page.specs.Checks.{check_refusal}
use Rattle.page.specs.Pages.{places_of, page_of, store_of}
use Rattle.page_examples.specs.declared.entering.Hindrance.{Hindrance}
use Rattle.page_examples.specs.declared.entering.Hindrance.TheVariants.{NoPage, NoRow}

-- why no row was put: the bytes are no page, or the page refuses the row
abbrev pub Hinders : List ℕ → List ℕ → Row → Hindrance → Type 0
Hinders bytes arities row (NoPage refusal) = check_refusal bytes arities ≡ Some refusal
Hinders bytes arities row (NoRow refusal) = (check_refusal bytes arities ≡ None) × (put_refusal (store_of bytes arities) row ≡ Some refusal)

-- the bytes are the page of the rows with this one, or else they are as they were
abbrev pub EnterSays : List ℕ → List ℕ → List ℕ → Row → Result ℕ Hindrance → Type 0
EnterSays before after arities row (Ok p) = (check_refusal before arities ≡ None) × (put_refusal (store_of before arities) row ≡ None) × (after ≡ page_of (slice_set (places_of before) p (Some row)))
EnterSays before after arities row (Err why) = Hinders before arities row why × (after ≡ before)
