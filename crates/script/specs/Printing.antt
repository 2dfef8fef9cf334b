-- What is printed of a line.
use Rattle.std.specs.Prelude.{ℕ, List, ◌++◌, take, Ok, Err, codes, decimal, Result}
use Rattle.fault.specs.Printing.{layer_word}
use Rattle.fault.specs.declared.notice.Notice.{Notice}
use Rattle.plan.specs.declared.line.Line.{Line}
use Rattle.script.specs.Faults.{fault_notice}
use Rattle.script.specs.Listing.{lines_words}
use Rattle.script.specs.declared.faults.Fault.{Fault}
use Rattle.script.specs.declared.reply.Reply.{Reply}
use Rattle.script.specs.declared.reply.Reply.TheVariants.{Taken, Sure, Unsure, Listed, Conflicts}
use Rattle.script.specs.declared.printing.Words.{Words}

-- a refusal is told with its number, its layer and the line's number
abbrev pub refused_words : Notice → ℕ → List ℕ
refused_words notice line = codes "refused " ++ (decimal notice.number ++ (codes " " ++ (layer_word notice.layer ++ (codes " line " ++ decimal line))))

-- a sheet is told by its lines, and then their number
abbrev pub outcome_words : Result Reply Fault → List Line → ℕ → List ℕ
outcome_words (Ok Taken) sheet line = codes "taken"
outcome_words (Ok Sure) sheet line = codes "sure"
outcome_words (Ok Unsure) sheet line = codes "unsure"
outcome_words (Ok (Listed width n)) sheet line = lines_words width (take n sheet) ++ (codes "end " ++ decimal n)
outcome_words (Ok (Conflicts n)) sheet line = codes "conflicts " ++ decimal n
outcome_words (Err e) sheet line = refused_words (fault_notice e) line

-- what is said of a line, in words
abbrev pub said_words : Words → List ℕ
said_words words = outcome_words words.said.outcome words.sheet.now words.said.line
