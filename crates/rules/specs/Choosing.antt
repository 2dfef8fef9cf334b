-- How conflicts are searched for: choices of places that break a rule, and how far a list of conflicts has come.
use Rattle.std.specs.Prelude.{◌≡◌, ℕ, Bool, true, ◌&&◌, ◌||◌, List, None, Option, nat_eq, nat_lt, slice_index_or}
use mathlib.Core.List.{Memᴰ}
use Rattle.store.specs.Lists.{any, all}
use Rattle.store.specs.declared.row.Row.{Row}
use Rattle.rules.specs.Sets.{distinct}
use Rattle.rules.specs.Rules.{Denial, breaks}
use Rattle.rules.specs.Listing.{Listed, rows_at, is_held, is_conflict, same_places}

-- two lists have the same numbers in them, in whatever order
abbrev pub SameSet : List ℕ → List ℕ → Type 0
SameSet a b = (p : ℕ) → any (nat_eq p) a ≡ any (nat_eq p) b

-- a place for each atom of the rule, in the atoms' order, such that the rows there break it
pub record Choice (table : List (Option Row)) (rule : Denial) (chosen : List ℕ) : Type 0 where
  pub held : all (λ p. is_held (slice_index_or table p None)) chosen ≡ true
  pub broken : breaks rule (rows_at table chosen) ≡ true

-- the list has each conflict that passes the first test and none that fails the second, and no set of places twice
pub record Between (least most : Listed → Bool) (listed : List Listed) : Type 0 where
  pub right : (c : Listed) → Memᴰ c listed → most c ≡ true
  pub full : (c : Listed) → least c ≡ true → Memᴰ c listed
  pub once : distinct same_places listed ≡ true

-- the conflicts that were known before the search, and those that the first k rules make
abbrev pub up_to : List (Option Row) → List Denial → (List ℕ → Bool) → ℕ → Listed → Bool
up_to table rules known k c = is_conflict table rules c && (known c.places || nat_lt c.rule k)
