-- What is told of a book's refusals.
use Rattle.fault.specs.Notices.{notice}
use Rattle.fault.specs.declared.notice.Notice.{Notice}
use Rattle.store.specs.Refusals.{notice_of as source_notice}
use Rattle.rules.specs.Refusals.{notice_of as rule_notice}
use Rattle.answers.specs.Refusals.{notice_of as answer_notice}
use Rattle.verdict.specs.Refusals.{notice_of as verdict_notice}
use Rattle.sheet.specs.Refusals.{notice_of as sheet_notice}
use Rattle.book.specs.declared.refusal.Refusal.{Refusal}
use Rattle.book.specs.declared.refusal.Refusal.TheVariants.{Source, EntryConflicts, TooManyRules, Rule, RuleConflicts, NoSuchConflict, Unanswered, Verdict, Sheet}

-- the refusals of the source, of the rule's form, of a plan and its line, of a verdict and of a sheet are told as they are
abbrev pub notice_of : Refusal → Notice
notice_of (Source e) = source_notice e
notice_of EntryConflicts = notice 15 0
notice_of TooManyRules = notice 21 0
notice_of (Rule e) = rule_notice e
notice_of RuleConflicts = notice 25 0
notice_of NoSuchConflict = notice 46 0
notice_of (Unanswered e) = answer_notice e
notice_of (Verdict e) = verdict_notice e
notice_of (Sheet e) = sheet_notice e
