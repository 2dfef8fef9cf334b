-- What a book that is kept over a page leaves of the caller's bytes.
use Rattle.std.specs.Prelude.{◌≡◌, ℕ, List, Some, None, Ok, Err, Result}
use Rattle.rules.specs.Rules.{Denial}
use Rattle.book.specs.Outcomes.{SessionSays}
use Rattle.book.specs.Plain.{Asked, Told}
use Rattle.page.specs.Checks.{check_refusal, IsPage}
use Rattle.page.specs.Pages.{store_of}
use Rattle.page.specs.declared.refusal.Refusal.{Refusal}

module _ {R : Type 0} (told : R → List Told → Type 0) (recorder recorder' : R) (askeds : List Asked) (arities before after : List ℕ) where
  -- The bytes were a page, and they are the page of the rows that the book holds in the end: opened over the one, the plain book
  -- tells of each call what was recorded, and at last holds what the other does. Or the check tells why they were no page; then they
  -- stay as they were, and nothing is recorded.
  abbrev pub KeepSays : Result Unit Refusal → Type 0
  KeepSays (Ok _) =
      (check_refusal before arities ≡ None) × IsPage after arities
      × ((rules : List Denial) × SessionSays (told recorder) (told recorder') askeds (store_of before arities) (store_of after arities) rules)
  KeepSays (Err e) = (check_refusal before arities ≡ Some e) × (after ≡ before) × (recorder' ≡ recorder)
