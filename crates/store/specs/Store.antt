-- What a source means: an arity for each relation, and places that each hold a row or nothing.
use Rattle.std.specs.Prelude.{◌≡◌, ℕ, ◌<◌, ◌≤◌, Bool, true, false, not, ◌&&◌, List, length, is_some, Some, None, Ok, Err, Option, Result, nat_lt, slice_index_or, slice_set}
use Rattle.fault.specs.Questions.{ask}
use Rattle.store.specs.Lists.{any}
use Rattle.store.specs.Places.{OnceIn}
use Rattle.store.specs.Rows.{same_row, zero_from}
use Rattle.store.specs.declared.row.Row.{Row}
use Rattle.store.specs.declared.refusal.Refusal.{Refusal}
use Rattle.store.specs.declared.refusal.Refusal.TheVariants.{Undeclared, Unfit, AlreadyHeld, NoEmptyPlace, NotHeld}

-- the model of every source
pub record Store : Type 0 where
  pub arity : ℕ → ℕ
  pub places : List (Option Row)

-- what stands at a place; nothing stands past the last
abbrev pub at : Store → ℕ → Option Row
at s p = slice_index_or s.places p None

-- a place's content is this row
abbrev pub is_row : Row → Option Row → Bool
is_row row (Some held) = same_row held row
is_row row None = false

-- a place's content is nothing
abbrev pub is_empty : Option Row → Bool
is_empty (Some held) = false
is_empty None = true

-- the row's relation is declared
abbrev pub declares : Store → Row → Bool
declares s row = nat_lt 0 (s.arity row.relation)

-- the row's columns from its relation's arity on are zero
abbrev pub ends_in_zeros : Store → Row → Bool
ends_in_zeros s row = zero_from (s.arity row.relation) row.columns

-- the row stands at some place
abbrev pub holds : Store → Row → Bool
holds s row = any (is_row row) s.places

-- some place is empty
abbrev pub has_empty : Store → Bool
has_empty s = any is_empty s.places

-- what every source keeps, whatever is done with it
pub record Kept (s : Store) : Type 0 where
  -- there are at most 256 places
  pub few : length s.places ≤ 256
  -- no arity is above 4, and only relations 0 to 15 are declared
  pub narrow : (relation : ℕ) → s.arity relation ≤ 4
  pub named : (relation : ℕ) → 16 ≤ relation → s.arity relation ≡ 0
  -- every row held fits: its relation is declared, and its columns from the arity on are zero
  pub fit : (p : ℕ) (row : Row) → at s p ≡ Some row → (declares s row && ends_in_zeros s row) ≡ true
  -- no row stands at two places
  pub once : OnceIn s.places

-- the place of a row, or nothing when the row is not held
abbrev pub FindSays : Store → Row → Option ℕ → Type 0
FindSays s row (Some p) = (p < length s.places) × (at s p ≡ Some row)
FindSays s row None = holds s row ≡ false

-- put's questions, in order: is the relation declared, are the further columns zero, is the row absent, is some place empty?
abbrev pub put_refusal : Store → Row → Option Refusal
put_refusal s row =
    ask (declares s row) Undeclared
    (ask (ends_in_zeros s row) Unfit
    (ask (not (holds s row)) AlreadyHeld
    (ask (has_empty s) NoEmptyPlace None)))

-- the same questions, of the arity of the row's relation, of whether the row is held and of whether some place is empty
abbrev pub admission : ℕ → Row → Bool → Bool → Option Refusal
admission arity row held empty =
    ask (nat_lt 0 arity) Undeclared
    (ask (zero_from arity row.columns) Unfit
    (ask (not held) AlreadyHeld
    (ask empty NoEmptyPlace None)))

-- the first two of them, of the arity and the row alone
abbrev pub sight_refusal : ℕ → Row → Option Refusal
sight_refusal arity row =
    ask (nat_lt 0 arity) Undeclared
    (ask (zero_from arity row.columns) Unfit None)

-- a row that they let in gets the empty place that was found
abbrev pub PlaceSays : ℕ → Row → Option ℕ → Option ℕ → Result ℕ Refusal → Type 0
PlaceSays arity row held vacant (Ok p) = (admission arity row (is_some held) (is_some vacant) ≡ None) × (vacant ≡ Some p)
PlaceSays arity row held vacant (Err e) = admission arity row (is_some held) (is_some vacant) ≡ Some e

-- a row that is put stands at one place that was empty, and all else is as it was
pub record Put (before after : Store) (row : Row) (p : ℕ) : Type 0 where
  pub granted : put_refusal before row ≡ None
  pub inside : p < length before.places
  pub empty : at before p ≡ None
  pub arities : after.arity ≡ before.arity
  pub stands : after.places ≡ slice_set before.places p (Some row)

-- put either puts the row, or is refused by the first question that is answered No and changes nothing
abbrev pub PutSays : Store → Store → Row → Result ℕ Refusal → Type 0
PutSays before after row (Ok p) = Put before after row p
PutSays before after row (Err e) = (after ≡ before) × (put_refusal before row ≡ Some e)

-- strike's question: is the row held?
abbrev pub strike_refusal : Store → Row → Option Refusal
strike_refusal s row = ask (holds s row) NotHeld None

-- a row that is struck leaves its place empty, and all else is as it was
pub record Struck (before after : Store) (row : Row) (p : ℕ) : Type 0 where
  pub granted : strike_refusal before row ≡ None
  pub inside : p < length before.places
  pub stood : at before p ≡ Some row
  pub arities : after.arity ≡ before.arity
  pub gone : after.places ≡ slice_set before.places p None

-- strike either strikes the row, or is refused and changes nothing
abbrev pub StrikeSays : Store → Store → Row → Result ℕ Refusal → Type 0
StrikeSays before after row (Ok p) = Struck before after row p
StrikeSays before after row (Err e) = (after ≡ before) × (strike_refusal before row ≡ Some e)
