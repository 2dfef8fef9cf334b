-- What is to be done, in lists of any length.
use Rattle.std.specs.Prelude.{ℕ, List}
use Rattle.store.specs.declared.row.Row.{Row}
use Rattle.rules.specs.Rules.{Denial}
use Rattle.plan.specs.declared.node.Node.{Node}
use Rattle.commands.specs.PlanWords.{nodes_in_words, verdict_in_words}
use Rattle.commands.specs.Rules.{written}
use Rattle.commands.specs.declared.command.Command.{Command}
use Rattle.commands.specs.declared.command.Command.TheVariants.{Enter, Strike, Rule, Verdict, Sheet, Conflicts}

pub data Task : Type 0 where
  enter : Row → Task
  strike : Row → Task
  rule : Denial → Task
  -- a plan's nodes and a line's columns
  verdict : List Node × List ℕ → Task
  sheet : List Node → Task
  conflicts : Task

-- what a command says is to be done
abbrev pub task_of : Command → Task
task_of (Enter row) = enter row
task_of (Strike row) = strike row
task_of (Rule text) = rule (written text)
task_of (Verdict words) = verdict (verdict_in_words words)
task_of (Sheet words) = sheet (nodes_in_words words)
task_of Conflicts = conflicts
