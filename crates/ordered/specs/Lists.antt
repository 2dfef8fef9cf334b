-- What a contract sees of a `Few`, and what its calls on ascending items promise.
use Rattle.std.specs.Prelude.{◌≡◌, ℕ, true, false, List, length, take}
use Rattle.std.specs.declared.cmp.Ordering.{Ordering}
use Rattle.ordered.specs.Order.{rises, listed, entered}
use Rattle.ordered.specs.declared.few.Few.{Few}

-- its items, in order
abbrev pub items_in : {T : Type 0} {n : ℕ} → Few T n → List T
items_in few = take few.count few.items

module _ {X : Type 0} (order : X → X → Ordering) (x : X) (before after : List X) where
  -- x stands at its place among the items, which ascend again
  pub record Takes : Type 0 where
    pub list : rises order before ≡ true → after ≡ entered order x before
    pub rising : rises order before ≡ true → rises order after ≡ true

  -- there are n items, the most that there can be, none is equal to x, and they stay as they are
  pub record Bars (n : ℕ) : Type 0 where
    pub full : length before ≡ n
    pub absent : rises order before ≡ true → listed order x before ≡ false
    pub same : after ≡ before
