-- What is told of the script's refusals.
use Rattle.fault.specs.Notices.{notice}
use Rattle.fault.specs.declared.notice.Notice.{Notice}
use Rattle.commands.specs.declared.refusal.Refusal.{Refusal}
use Rattle.commands.specs.declared.refusal.Refusal.TheVariants.{TooLong, UnknownCommand, UnknownWord, Misplaced}

-- the script's refusals have no position
abbrev pub notice_of : Refusal → Notice
notice_of TooLong = notice 1 0
notice_of UnknownCommand = notice 2 0
notice_of UnknownWord = notice 3 0
notice_of Misplaced = notice 4 0
