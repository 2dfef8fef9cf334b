-- What is told of the refusals of nodes.
use Rattle.fault.specs.Notices.{notice}
use Rattle.fault.specs.declared.notice.Notice.{Notice}
use Rattle.plan.specs.declared.refusal.Refusal.{Refusal}
use Rattle.plan.specs.declared.refusal.Refusal.TheVariants.{Size, Order, Leaves, Widths}

-- the position is that of the first node that fails
abbrev pub notice_of : Refusal → Notice
notice_of Size = notice 31 0
notice_of (Order position) = notice 32 position
notice_of (Leaves position) = notice 33 position
notice_of (Widths position) = notice 34 position
