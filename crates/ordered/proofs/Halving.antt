-- A search by halving: what is known of the places that are left. Assumes nothing.
use Rattle.std.proofs.Common.{◌≡◌, ℕ, ◌-◌, ◌<◌, ◌≤◌, List, length, get_or, Ordering, Less, Greater}

-- x has its place from low to high: the neighbours on either side have answered so
pub record Narrowed {X : Type 0} (order : X → X → Ordering) (xs : List X) (x : X) (low high : ℕ) : Type 0 where
  pub upward : low ≤ high
  pub within : high ≤ length xs
  pub left : 0 < low → order (get_or xs (low - 1) x) x ≡ Less
  pub right : high < length xs → order (get_or xs high x) x ≡ Greater
