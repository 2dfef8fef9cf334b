-- What a conflict lacks to be marked whole.
use Rattle.std.specs.Prelude.{◌≡◌, ℕ, true, false, List}
use Rattle.store.specs.Lists.{all}
use Rattle.cores.specs.Backing.{one_of, without}
use Rattle.verdict.specs.Marking.{is_in}
use Rattle.verdict.specs.declared.marks.Lack.{Lack}
use Rattle.verdict.specs.declared.marks.Lack.TheVariants.{Nothing, One, More}

-- nothing, the row at one place alone, or something
abbrev pub LackSays : List ℕ → List ℕ → Lack → Type 0
LackSays marks places Nothing = all (is_in marks) places ≡ true
LackSays marks places (One p) = (one_of places p ≡ true) × (is_in marks p ≡ false) × (all (is_in marks) (without p places) ≡ true)
LackSays marks places More = all (is_in marks) places ≡ false
