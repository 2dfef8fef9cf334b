use Rattle.rules.proofs.Extension.{extension, some_reading}
use Rattle.rules.proofs.ReadBy.{same_readings}
use Rattle.rules.proofs.SameHeld.{same_members, only_held}
use Rattle.rules.proofs.laws.reading.Goals as goal

pub returns : goal.returns
returns c = record { extends = extension; some = some_reading; listed = same_readings; members = same_members; held = only_held }
