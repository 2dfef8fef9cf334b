-- What a line of a script commands, and the questions that it is put first.
use Rattle.std.specs.Prelude.{◌≡◌, ℕ, Bool, List, [], ◌∷◌, length, drop, is_some, Some, None, Ok, Err, Option, Result, nat_le}
use Rattle.std.specs.Option.{option_map, option_flatten}
use Rattle.fault.specs.Questions.{ask}
use Rattle.store.specs.Lists.{all}
use Rattle.words.specs.Language.{form_of, texts, parts_of}
use Rattle.words.specs.declared.separators.Separator.TheVariants.{Space}
use Rattle.commands.specs.Verbs.{verb_of}
use Rattle.commands.specs.Rows.{row_from}
use Rattle.commands.specs.Plans.{plan_from, verdict_from}
use Rattle.commands.specs.Rules.{rule_from}
use Rattle.commands.specs.Tasks.{Task, enter, strike, rule, verdict, sheet, conflicts, task_of}
use Rattle.commands.specs.declared.verb.Verb.{Verb}
use Rattle.commands.specs.declared.verb.Verb.TheVariants.{Enter, Strike, Rule, Verdict, Sheet, Conflicts}
use Rattle.commands.specs.declared.command.Command.{Command}
use Rattle.commands.specs.declared.refusal.Refusal.{Refusal}
use Rattle.commands.specs.declared.refusal.Refusal.TheVariants.{TooLong, UnknownCommand, UnknownWord, Misplaced}

-- the words of a line, parted by one space each
abbrev pub words_of : List ℕ → List (List ℕ)
words_of line = texts (parts_of Space line)

-- what the first of the words commands, if it is known
abbrev pub verb_in : List (List ℕ) → Option Verb
verb_in [] = None
verb_in (w ∷ ws) = verb_of w

-- a word has one of the forms of the language
abbrev pub has_form : List ℕ → Bool
has_form w = is_some (form_of w)

-- what wants no further words
abbrev pub alone : Task → List (List ℕ) → Option Task
alone task [] = Some task
alone task (w ∷ ws) = None

-- what a verb and the words behind it command, where these are in the order and number that it wants
abbrev pub task_from : Verb → List (List ℕ) → Option Task
task_from Enter ws = option_map enter (row_from ws)
task_from Strike ws = option_map strike (row_from ws)
task_from Rule ws = option_map rule (rule_from ws)
task_from Verdict ws = option_map verdict (verdict_from ws)
task_from Sheet ws = option_map sheet (plan_from ws)
task_from Conflicts ws = alone conflicts ws

-- what a line commands
abbrev pub line_command : List ℕ → Option Task
line_command line = option_flatten (option_map (λ verb. task_from verb (drop 1 (words_of line))) (verb_in (words_of line)))

-- the questions put to a line, in order: is it at most 200 bytes, is its first word known, has each further word a form, do they make a command?
abbrev pub line_refusal : List ℕ → Option Refusal
line_refusal line =
    ask (nat_le (length line) 200) TooLong
    (ask (is_some (verb_in (words_of line))) UnknownCommand
    (ask (all has_form (drop 1 (words_of line))) UnknownWord
    (ask (is_some (line_command line)) Misplaced None)))

-- a line is refused by the first question that is answered No, and otherwise commands what its words say
abbrev pub ParseSays : List ℕ → Result Command Refusal → Type 0
ParseSays line (Ok command) = (line_refusal line ≡ None) × (line_command line ≡ Some (task_of command))
ParseSays line (Err e) = line_refusal line ≡ Some e
