-- What was gathered of a line.
use Rattle.std.specs.Prelude.{ℕ, List}
use Rattle.ordered.specs.Lists.{items_in}
use Rattle.script.specs.declared.pending.Pending.{Pending}

-- the bytes gathered so far
abbrev pub gathered : Pending → List ℕ
gathered p = items_in p.bytes
