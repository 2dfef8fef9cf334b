-- What is told of the refusals of a plan and a line.
use Rattle.fault.specs.Notices.{notice}
use Rattle.fault.specs.declared.notice.Notice.{Notice}
use Rattle.answers.specs.declared.refusal.Refusal.{Refusal}
use Rattle.answers.specs.declared.refusal.Refusal.TheVariants.{Arity, Column}

-- the position is that of the first node, or of the first column, that fails
abbrev pub notice_of : Refusal → Notice
notice_of (Arity position) = notice 41 position
notice_of (Column position) = notice 42 position
