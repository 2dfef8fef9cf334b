-- The two sides of a way.
use Rattle.std.specs.Prelude.{◌≡◌, ℕ, Bool, true, List, Option}
use Rattle.ordered.specs.Lists.{items_in}
use Rattle.cores.specs.Ways.{ins_of, outs_of, possible}
use Rattle.verdict.specs.declared.sides.Sides.{Sides}

-- the way can be, and these are the places of the rows that it says are in, and out
pub record Split (leaves : List (Option ℕ)) (way : List Bool) (sides : Sides) : Type 0 where
  pub may : possible leaves way ≡ true
  pub ins : items_in sides.ins ≡ ins_of leaves way
  pub outs : items_in sides.outs ≡ outs_of leaves way
