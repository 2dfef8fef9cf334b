-- When bytes are a page.
use Rattle.std.specs.Prelude.{◌≡◌, ℕ, ◌%◌, Bool, true, not, List, map, length, take, Some, None, Option, ◌==◌, nat_le, slice_index_or}
use Rattle.std.specs.List.{range_with_len, prefix_len}
use Rattle.fault.specs.Questions.{ask}
use Rattle.store.specs.Lists.{any, all}
use Rattle.store.specs.Rows.{arity_in}
use Rattle.store.specs.Store.{Kept, is_row}
use Rattle.store.specs.declared.row.Row.{Row}
use Rattle.page.specs.Pages.{records_of, places_of, page_of, store_of}
use Rattle.page.specs.Records.{is_marked, is_fit, place_of}
use Rattle.page.specs.declared.refusal.Refusal.{Refusal}
use Rattle.page.specs.declared.refusal.Refusal.TheVariants.{NotWhole, TooLong, Unmarked, Unfit, Repeated}

-- one question to each thing of a list: the first that fails it is the refusal's position
abbrev pub ask_each : {A : Type 0} → (A → Bool) → List A → (ℕ → Refusal) → Option Refusal → Option Refusal
ask_each test things refusal rest = ask (all test things) (refusal (prefix_len test things)) rest

-- what stands at a place is no row of the earlier places
abbrev pub is_new_to : List (Option Row) → Option Row → Bool
is_new_to earlier None = true
is_new_to earlier (Some row) = not (any (is_row row) earlier)

-- the row at a place stands at no earlier one
abbrev pub is_new : List (Option Row) → ℕ → Bool
is_new places p = is_new_to (take p places) (slice_index_or places p None)

-- the questions to the records: is each marked, does each fit, is each row new?
abbrev pub record_refusal : (ℕ → ℕ) → List (List ℕ) → Option Refusal
record_refusal arity records =
    ask_each is_marked records Unmarked
    (ask_each (is_fit arity) records Unfit
    (ask_each (is_new (map place_of records)) (range_with_len 0 (length records)) Repeated None))

-- the questions to a page, in order: are its bytes whole records, are these at most 256, and what the records are asked
abbrev pub check_refusal : List ℕ → List ℕ → Option Refusal
check_refusal bytes arities =
    ask (length bytes % 20 == 0) NotWhole
    (ask (nat_le (length bytes) 5120) TooLong
    (record_refusal (arity_in arities) (records_of bytes)))

-- bytes that are a page, and stay one while a source writes to them
pub record IsPage (bytes arities : List ℕ) : Type 0 where
  -- the check refuses nothing
  pub passes : check_refusal bytes arities ≡ None
  -- the rows at their places give back the bytes
  pub whole : page_of (places_of bytes) ≡ bytes
  -- the rows are what every source keeps
  pub kept : Kept (store_of bytes arities)
