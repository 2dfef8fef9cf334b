-- The places of leaves.
use Rattle.std.specs.Prelude.{ℕ, Bool, true, List, Option, Some, None, nat_lt}
use Rattle.store.specs.Lists.{all}

-- the place of a row that is held has a mark byte
abbrev pub has_byte : Option ℕ → Bool
has_byte None = true
has_byte (Some p) = nat_lt p 256

abbrev pub leaves_have_bytes : List (Option ℕ) → Bool
leaves_have_bytes leaves = all has_byte leaves
