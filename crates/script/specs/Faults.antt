-- What is told of any refusal that a line meets: what the refusing layer tells.
use Rattle.fault.specs.declared.notice.Notice.{Notice}
use Rattle.book.specs.Refusals.{notice_of as book_notice}
use Rattle.commands.specs.Refusals.{notice_of as script_notice}
use Rattle.plan.specs.Refusals.{notice_of as plan_notice}
use Rattle.script.specs.declared.faults.Fault.{Fault}
use Rattle.script.specs.declared.faults.Fault.TheVariants.{Script, Plan, Book}

abbrev pub fault_notice : Fault → Notice
fault_notice (Script refusal) = script_notice refusal
fault_notice (Plan refusal) = plan_notice refusal
fault_notice (Book refusal) = book_notice refusal
