-- What is told where there is no verdict.
use Rattle.fault.specs.Notices.{notice}
use Rattle.fault.specs.declared.notice.Notice.{Notice}
use Rattle.answers.specs.Refusals.{notice_of as answers_notice}
use Rattle.verdict.specs.declared.refusal.Refusal.{Refusal}
use Rattle.verdict.specs.declared.refusal.Refusal.TheVariants.{Unanswered, FewMarks, FewRows}

-- what the plan or the line is refused for is told as it is; the other two have no position
abbrev pub notice_of : Refusal → Notice
notice_of (Unanswered refusal) = answers_notice refusal
notice_of FewMarks = notice 43 0
notice_of FewRows = notice 44 0
