-- The conflicts as the engine lists them: by ascending places, each once, with the least rule that is broken.
use Rattle.std.specs.Prelude.{◌≡◌, ℕ, zero, suc, Bool, true, false, not, ◌&&◌, List, [], ◌∷◌, Some, None, Option, ◌≢◌, nat_eq, nat_lt, slice_index_or}
use mathlib.Core.List.{Memᴰ}
use Rattle.std.specs.List.{flat_map}
use Rattle.store.specs.Lists.{any, all, same_numbers}
-- what a list of places holds is said where places are; the names stand here too
pub use Rattle.store.specs.Held.{given, rows_of, empties}
use Rattle.store.specs.declared.row.Row.{Row}
use Rattle.rules.specs.Sets.{among, distinct}
use Rattle.rules.specs.Rules.{Denial, conflicts}

-- the rows at some places, in the order of these
abbrev pub rows_at : List (Option Row) → List ℕ → List Row
rows_at table places = flat_map (λ p. given (slice_index_or table p None)) places

abbrev pub is_held : Option Row → Bool
is_held (Some r) = true
is_held None = false

abbrev pub ascending : List ℕ → Bool
ascending [] = true
ascending (i ∷ places) = all (nat_lt i) places && ascending places

-- the rows at these places are, all together, what a choice that breaks the rule has chosen
abbrev pub forbids : List (Option Row) → List ℕ → Denial → Bool
forbids table places rule = any (λ chosen. all (among chosen) (rows_at table places)) (conflicts (rows_at table places) (rule ∷ []))

-- the first element that passes the test is the k-th
abbrev pub first_is : {A : Type 0} → (A → Bool) → List A → ℕ → Bool
first_is test [] k = false
first_is test (x ∷ xs) zero = test x
first_is test (x ∷ xs) (suc k) = not (test x) && first_is test xs k

-- a conflict as it is listed: its places, ascending, and the number of its rule
pub record Listed : Type 0 where
  pub places : List ℕ
  pub rule : ℕ

abbrev pub same_places : Listed → Listed → Bool
same_places a b = same_numbers a.places b.places

-- the places ascend, each holds a row, and the first rule that forbids these rows is the one told
abbrev pub is_conflict : List (Option Row) → List Denial → Listed → Bool
is_conflict table rules c =
    ascending c.places && (all (λ p. is_held (slice_index_or table p None)) c.places && first_is (forbids table c.places) rules c.rule)

-- the list has each conflict that passes the test, no other, and no set of places twice
pub record Lists (test : Listed → Bool) (listed : List Listed) : Type 0 where
  pub right : (c : Listed) → Memᴰ c listed → test c ≡ true
  pub full : (c : Listed) → test c ≡ true → Memᴰ c listed
  pub once : distinct same_places listed ≡ true

-- the conflict has the place p
abbrev pub touches : ℕ → Listed → Bool
touches p c = any (nat_eq p) c.places

-- two lists of places that are alike at each place but p
abbrev pub AlikeBut : ℕ → List (Option Row) → List (Option Row) → Type 0
AlikeBut p a b = (i : ℕ) → (i ≢ p) → slice_index_or a i None ≡ slice_index_or b i None
