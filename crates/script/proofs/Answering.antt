-- What a call of the book promises, told of the task that asked for it.
use Rattle.std.proofs.Common.{◌≡◌, ℕ, List, None, Result, refl}
use Rattle.store.specs.Store.{Store}
use Rattle.store.specs.declared.row.Row.{Row}
use Rattle.rules.specs.Rules.{Denial}
use Rattle.plan.specs.Answers.{plan_width}
use Rattle.plan.specs.Filling.{fill_refusal}
use Rattle.plan.specs.declared.line.Line.{Line}
use Rattle.plan.specs.declared.node.Node.{Node}
use Rattle.verdict.specs.declared.outcome.Verdict.{Verdict}
use Rattle.book.specs.Calls.{RuleSays, JudgingSays, ListingSays, ruled_by, judged_by, listed_by}
use Rattle.book.specs.Plain.{ruling, judging, listing}
use Rattle.book.specs.Runs.{LivesOn}
use Rattle.book.specs.declared.refusal.Refusal.{Refusal}
use Rattle.commands.specs.Tasks.{rule, verdict, sheet}
use Rattle.script.specs.Counters.{handed, judged, TaskSays}
use Rattle.script.specs.declared.faults.Fault.{Fault}
use Rattle.script.specs.declared.reply.Reply.{Reply}
use Rattle.script.specs.declared.reply.Reply.TheVariants.{Taken, Listed}

module _ (s : Store) (rules : List Denial) (lines : List Line) (result : Result Reply Fault) where
  -- the rule that the book is handed is the one that the line writes
  pub ruled_says : (s' : Store) (rules' : List Denial) (taken r : Denial) (o : Result ℕ Refusal) → s' ≡ s → taken ≡ r → RuleSays s rules rules' taken o → LivesOn s rules s' rules' (ruling taken) (ruled_by o)
      → result ≡ handed (λ n. Taken) o → TaskSays s rules s' rules' lines (rule r) result
  ruled_says s' rules' taken r o stays same says law is = (o, (rw same at says, stays), rw same at law, is)

  module _ (nodes filled : List Node) (fills : fill_refusal nodes ≡ None) (same : filled ≡ nodes) where
    -- the plan has the nodes that the line writes, and so much is lent as there is
    pub judged_says : (columns : List ℕ) (core core' : List Row) (size room : ℕ) (o : Result Verdict Refusal) → size ≡ 256 → room ≡ 12 → JudgingSays s rules filled columns size core core' o
        → LivesOn s rules s rules (judging filled columns size room) (judged_by core' o) → result ≡ handed judged o → TaskSays s rules s rules lines (verdict (nodes, columns)) result
    judged_says columns core core' size room o marks rows says law is = rw fills (core, (core', (o, (rw (same, marks) at says, (refl, refl)), rw (same, marks, rows) at law, is)))

    pub listed_says : (before : List Line) (size room : ℕ) (o : Result ℕ Refusal) → size ≡ 256 → room ≡ 256 → ListingSays s rules filled size before lines o
        → LivesOn s rules s rules (listing filled size room) (listed_by lines o) → result ≡ handed (Listed (plan_width nodes)) o → TaskSays s rules s rules lines (sheet nodes) result
    listed_says before size room o marks rows says law is = rw fills (before, (o, (rw (same, marks) at says, (refl, refl)), rw (same, marks, rows) at law, is))
