use Rattle.std.proofs.Common.{◌∙◌}
use Rattle.store.specs.Held.{rows_of}
use Rattle.rules.proofs.Extension.{some_reading}
use Rattle.rules.proofs.ReadBy.{same_readings}
use Rattle.sheet.proofs.laws.readable.Goals as goal

pub returns : goal.returns
returns c s rules listed lists each = let (R, ok) = some_reading (rows_of s.places) rules each in (R, same_readings s.places rules listed lists R ∙ ok)
