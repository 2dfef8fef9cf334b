-- The rows that a book is loaded with.
use Rattle.std.specs.Prelude.{ℕ}
use Rattle.bench.specs.declared.load.Load.{Load}
use Rattle.bench.specs.declared.load.Load.TheVariants.{Pairs, Threes, LateThrees}

-- how many pads have a row at each slot
abbrev pub pads : Load → ℕ
pads Pairs = 8
pads Threes = 2
pads LateThrees = 2
