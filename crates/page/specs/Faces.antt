-- What C is told of bytes: a number, and a position.
use Rattle.std.specs.Prelude.{Some, None, Option}
use Rattle.page.specs.Refusals.{notice_of}
use Rattle.page.specs.declared.face.Finding.{Finding}
use Rattle.page.specs.declared.refusal.Refusal.{Refusal}

-- 0 where nothing is refused, and otherwise the refusal's number and position
abbrev pub finding_of : Option Refusal → Finding
finding_of None = record { number = 0; position = 0 }
finding_of (Some refusal) = record { number = (notice_of refusal).number; position = (notice_of refusal).position }
