-- What the functions on a list in the first places of a slice promise. Assumes nothing.
--     items, after      what the slice holds before and after the call
--     front             the list, which is `take count items`: a count past the end means the whole slice
-- What cites `rises` is promised of a front that ascends, and all else of any.
use Rattle.std.specs.Prelude.{◌≡◌, ℕ, ◌-◌, ◌<◌, ◌≤◌, Bool, true, false, List, length, take, drop, filter, slice_index_or}
use Rattle.std.specs.declared.cmp.Ordering.TheVariants.{Less, Equal, Greater}
use Rattle.std.specs.declared.cmp.Ordering.{Ordering}
use Rattle.ordered.specs.Order.{rises, listed, entered}

module _ {X : Type 0} (order : X → X → Ordering) where
  -- `find` told `Ok place`: what stands there is equal to x
  pub record Stands (front : List X) (x : X) (place : ℕ) : Type 0 where
    pub within : place < length front
    pub equal : order (slice_index_or front place x) x ≡ Equal

  -- `find` told `Err place`: what stands just left of the place is before x, and what stands at it is after x
  pub record Belongs (front : List X) (x : X) (place : ℕ) : Type 0 where
    pub within : place ≤ length front
    pub left : 0 < place → order (slice_index_or front (place - 1) x) x ≡ Less
    pub right : place < length front → order (slice_index_or front place x) x ≡ Greater

  -- `enter` told `Ok n`: the list is now in the first n places, and from there on nothing is altered
  pub record Enters (x : X) (front items after : List X) (n : ℕ) : Type 0 where
    pub within : n ≤ length items
    pub list : rises order front ≡ true → take n after ≡ entered order x front
    pub rising : rises order front ≡ true → rises order (take n after) ≡ true
    pub rest : drop n after ≡ drop n items

  -- `enter` told `Err`: the list fills the slice, nothing in it is equal to x, and nothing is altered
  pub record Refuses (x : X) (front items after : List X) : Type 0 where
    pub full : length front ≡ length items
    pub absent : rises order front ≡ true → listed order x front ≡ false
    pub same : after ≡ items

-- `retain` told n: what passes of the list is now in the first n places, in its order, and from there on nothing is altered
pub record Retains {X : Type 0} (passes : X → Bool) (front items after : List X) (n : ℕ) : Type 0 where
  pub within : n ≤ length front
  pub list : take n after ≡ filter passes front
  pub rest : drop n after ≡ drop n items
