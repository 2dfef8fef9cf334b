-- What is told of a source's refusals.
use Rattle.fault.specs.Notices.{notice}
use Rattle.fault.specs.declared.notice.Notice.{Notice}
use Rattle.store.specs.declared.refusal.Refusal.{Refusal}
use Rattle.store.specs.declared.refusal.Refusal.TheVariants.{Undeclared, Unfit, AlreadyHeld, NoEmptyPlace, NotHeld}

-- a source's refusals have no position
abbrev pub notice_of : Refusal → Notice
notice_of Undeclared = notice 11 0
notice_of Unfit = notice 12 0
notice_of AlreadyHeld = notice 13 0
notice_of NoEmptyPlace = notice 14 0
notice_of NotHeld = notice 16 0
