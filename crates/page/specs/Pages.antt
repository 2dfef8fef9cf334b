-- A page: its bytes as records, what stands at its places, and the bytes that places give.
use Rattle.std.specs.Prelude.{◌≡◌, ℕ, ◌+◌, ◌*◌, ◌/◌, List, ◌++◌, map, length, take, drop, Ok, Err, Option, Result, ◌≢◌}
use Rattle.std.specs.Simd.{first_chunks}
use Rattle.std.specs.List.{flat_map}
use Rattle.store.specs.Rows.{arity_in}
use Rattle.store.specs.Store.{Store}
use Rattle.store.specs.declared.row.Row.{Row}
use Rattle.page.specs.Records.{place_of, record_of}
use Rattle.page.specs.declared.writing.WrongLength.{WrongLength}

-- every 20 bytes are a record
unfoldable pub records_of : List ℕ → List (List ℕ)
records_of bytes = first_chunks 20 (length bytes / 20) bytes

-- each record is a place
unfoldable pub places_of : List ℕ → List (Option Row)
places_of bytes = map place_of (records_of bytes)

-- the page of places: their records, one after another
unfoldable pub page_of : List (Option Row) → List ℕ
page_of places = flat_map record_of places

-- the bytes with one record written anew, and no other byte changed
abbrev pub written : List ℕ → ℕ → List ℕ → List ℕ
written bytes place new = take (20 * place) bytes ++ (new ++ drop (20 * place + 20) bytes)

-- the source that a page's bytes stand for
abbrev pub store_of : List ℕ → List ℕ → Store
store_of bytes arities = record { arity = arity_in arities; places = places_of bytes }

-- where the bytes have just the length of the page, they become the page of the places, whose places are these; and otherwise they stay as they are
abbrev pub WriteSays : List (Option Row) → List ℕ → List ℕ → Result (Unit {0}) WrongLength → Type 0
WriteSays places before after (Ok _) = (length before ≡ 20 * length places) × (after ≡ page_of places) × (places_of after ≡ places)
WriteSays places before after (Err _) = (length before ≢ 20 * length places) × (after ≡ before)
