-- What a search for the conflicts of one rule does to the list.
use Rattle.std.specs.Prelude.{◌≡◌, ℕ, ◌+◌, Bool, true, cond, ◌⊎◌, List, ◌++◌, length, Ok, Err, Option, Result, ◌==◌, ◌≢◌, slice_index}
use mathlib.Core.List.{Memᴰ}
use Rattle.ordered.specs.declared.entry.Full.{Full}
use Rattle.store.specs.declared.row.Row.{Row}
use Rattle.rules.specs.Choosing.{SameSet, Choice}
use Rattle.rules.specs.Listing.{Listed, ascending}
use Rattle.rules.specs.Rules.{Denial}
use Rattle.rules.specs.declared.search.Scope.{Scope}
use Rattle.rules.specs.declared.search.Scope.TheVariants.{All, At}

-- the choice is one that is looked for
abbrev pub in_scope : Scope → List ℕ → Bool
in_scope All chosen = true
in_scope (At atom place) chosen = slice_index chosen atom == place

-- the places to try for an atom: the first, and one past the last
abbrev pub span_of : Scope → ℕ → ℕ → ℕ × ℕ
span_of All atom places = (0, places)
span_of (At fixed place) atom places = cond (fixed == atom) (place, place + 1) (0, places)

-- the conflict has the places of the choice, in ascending order, and this number
pub record MadeOf (chosen : List ℕ) (number : ℕ) (c : Listed) : Type 0 where
  pub ascends : ascending c.places ≡ true
  pub same : SameSet chosen c.places
  pub ruled : c.rule ≡ number

-- a choice that breaks the rule makes the conflict, and its places are not listed
pub record Found (table : List (Option Row)) (rule : Denial) (number : ℕ) (listed : List Listed) (c : Listed) : Type 0 where
  pub chosen : List ℕ
  pub breaks : Choice table rule chosen
  pub made : MadeOf chosen number c
  pub absent : (d : Listed) → Memᴰ d listed → d.places ≢ c.places

-- nothing is taken out of the list, and only what is found is entered
pub record Grown (table : List (Option Row)) (rule : Denial) (number : ℕ) (before after : List Listed) : Type 0 where
  pub kept : (c : Listed) → Memᴰ c before → Memᴰ c after
  pub new : (c : Listed) → Memᴰ c after → Memᴰ c before ⊎ Found table rule number before c

-- the places of the choice are listed
abbrev pub Has : List Listed → List ℕ → Type 0
Has listed chosen = (c : Listed) × Memᴰ c listed × SameSet chosen c.places

-- so are those of each choice in scope that begins so and breaks the rule
pub record HasAll (table : List (Option Row)) (rule : Denial) (scope : Scope) (begun : List ℕ) (listed : List Listed) : Type 0 where
  pub has : (rest : List ℕ) → Choice table rule (begun ++ rest) → in_scope scope (begun ++ rest) ≡ true → Has listed (begun ++ rest)

-- the list has grown by all that is found among those choices, or until it was full and one more was found
abbrev pub SearchSays : List (Option Row) → Denial → Scope → ℕ → List ℕ → List Listed → List Listed → Result Unit Full → Type 0
SearchSays table rule scope number begun before after (Ok done) = Grown table rule number before after × HasAll table rule scope begun after
SearchSays table rule scope number begun before after (Err full) = Grown table rule number before after × (length after ≡ 1024) × ((c : Listed) × Found table rule number after c)

-- the same of all choices that pass a test
abbrev pub FindSays : List (Option Row) → Denial → (List ℕ → Bool) → ℕ → List Listed → List Listed → Result Unit Full → Type 0
FindSays table rule wanted number before after (Ok done) = Grown table rule number before after × ((chosen : List ℕ) → Choice table rule chosen → wanted chosen ≡ true → Has after chosen)
FindSays table rule wanted number before after (Err full) = Grown table rule number before after × (length after ≡ 1024) × ((c : Listed) × Found table rule number after c)
