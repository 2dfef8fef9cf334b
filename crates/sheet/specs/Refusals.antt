-- What is told where there is no sheet.
use Rattle.fault.specs.Notices.{notice}
use Rattle.fault.specs.declared.notice.Notice.{Notice}
use Rattle.answers.specs.Refusals.{notice_of as answers_notice}
use Rattle.sheet.specs.declared.refusal.Refusal.{Refusal}
use Rattle.sheet.specs.declared.refusal.Refusal.TheVariants.{Unanswered, FewMarks, Full}

-- what the plan is refused for is told as it is; the other two have no position
abbrev pub notice_of : Refusal → Notice
notice_of (Unanswered refusal) = answers_notice refusal
notice_of FewMarks = notice 43 0
notice_of Full = notice 45 0
