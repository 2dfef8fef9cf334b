-- What is told of a page's refusals.
use Rattle.fault.specs.Notices.{notice}
use Rattle.fault.specs.declared.notice.Notice.{Notice}
use Rattle.page.specs.declared.refusal.Refusal.{Refusal}
use Rattle.page.specs.declared.refusal.Refusal.TheVariants.{NotWhole, TooLong, Unmarked, Unfit, Repeated}

-- the position is that of the first record that fails
abbrev pub notice_of : Refusal → Notice
notice_of NotWhole = notice 51 0
notice_of TooLong = notice 52 0
notice_of (Unmarked place) = notice 53 place
notice_of (Unfit place) = notice 54 place
notice_of (Repeated place) = notice 55 place
