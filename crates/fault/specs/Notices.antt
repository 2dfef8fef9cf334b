-- What is told of a refusal: its number, the layer that the number belongs to, and a position.
use Rattle.std.specs.Prelude.{ℕ, Bool, cond, ◌&&◌, ◌||◌, ◌==◌, nat_le}
use Rattle.fault.specs.declared.layer.Layer.{Layer}
use Rattle.fault.specs.declared.layer.Layer.TheVariants.{Script, Source, Plan, Page, Book}
use Rattle.fault.specs.declared.notice.Notice.{Notice}

-- n is one of the numbers from low to high
abbrev pub among : ℕ → ℕ → ℕ → Bool
among low high n = nat_le low n && nat_le n high

-- 1 to 4 are the script's refusals, 11 to 14 and 16 the source's, 31 to 34 the plan's, 51 to 55 the page's, and all others the book's
abbrev pub layer_of : ℕ → Layer
layer_of n =
    cond (among 1 4 n) Script
    (cond (among 11 14 n || n == 16) Source
    (cond (among 31 34 n) Plan
    (cond (among 51 55 n) Page Book)))

-- the refusal with number n at a position
abbrev pub notice : ℕ → ℕ → Notice
notice n position = record { number = n; layer = layer_of n; position = position }
