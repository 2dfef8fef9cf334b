-- What settles a verdict, over places: a way that loses the line and can be, or that there is none.
use Rattle.std.specs.Prelude.{◌≡◌, ℕ, ◌<◌, ◌≤◌, Bool, true, not, List, map, length, take, None, Option, slice_index_or}
use Rattle.store.specs.Store.{Store, FindSays}
use Rattle.store.specs.declared.row.Row.{Row}
use Rattle.rules.specs.Listing.{Listed}
use Rattle.plan.specs.Truths.{plan_truth}
use Rattle.plan.specs.declared.plan.Plan.{Plan}
use Rattle.cores.specs.Ways.{ins_of, outs_of, possible}
use Rattle.cores.specs.Backing.{backing, Works, NoneWorks}

-- the places of each conflict that is listed
abbrev pub listed_places : List Listed → List (List ℕ)
listed_places listed = map (λ c. c.places) listed

-- the leaves tell of each named row the place where it stands, or that it is not held
pub record Located (s : Store) (named : List Row) (leaves : List (Option ℕ)) : Type 0 where
  pub long : length leaves ≡ length named
  pub each : (k : ℕ) → k < length named → (d : Row) → FindSays s (slice_index_or named k d) (slice_index_or leaves k None)

-- the line is no answer of the plan where the rows that it names are in and out in this way
abbrev pub lost_by : Plan → List ℕ → List Bool → Bool
lost_by plan columns way = not (plan_truth plan columns way)

-- what is told of a list depends on its first n elements
abbrev pub ByFirst : ℕ → (List Bool → Bool) → Type 0
ByFirst n told = (a b : List Bool) → take n a ≡ take n b → told a ≡ told b

-- some way loses the line and can be, since some choices work; B is what these mark
pub record SomeWay (C : List (List ℕ)) (lost : List Bool → Bool) (leaves : List (Option ℕ)) (B : List ℕ) : Type 0 where
  pub way : List Bool
  pub choices : List ℕ
  pub long : length leaves ≤ length way
  pub loses : lost way ≡ true
  pub may : possible leaves way ≡ true
  pub works : Works C (ins_of leaves way) (outs_of leaves way) choices
  pub is : B ≡ backing C (ins_of leaves way) (outs_of leaves way) choices

-- for no way that loses the line do any choices work
abbrev pub NoWay : List (List ℕ) → (List Bool → Bool) → List (Option ℕ) → Type 0
NoWay C lost leaves = (way : List Bool) → length way ≡ length leaves → lost way ≡ true → possible leaves way ≡ true → NoneWorks C (ins_of leaves way) (outs_of leaves way)
