-- What the counter does with a line.
use Rattle.std.specs.Prelude.{◌≡◌, ℕ, ◌+◌, ◌-◌, ◌^◌, min, List, [], ◌∷◌, Some, None, Ok, Err, Option, Result}
use Rattle.std.specs.Option.{option_map}
use Rattle.store.specs.Rows.{arity_in}
use Rattle.store.specs.Store.{Store}
use Rattle.store.specs.Tables.{table_model}
use Rattle.store.specs.declared.row.Row.{Row}
use Rattle.rules.specs.Rules.{Denial}
use Rattle.plan.specs.Answers.{plan_width}
use Rattle.plan.specs.Filling.{fill_refusal}
use Rattle.plan.specs.declared.line.Line.{Line}
use Rattle.plan.specs.declared.node.Node.{Node}
use Rattle.verdict.specs.declared.outcome.Verdict.{Verdict}
use Rattle.verdict.specs.declared.outcome.Verdict.TheVariants.{Sure as IsSure, Unsure as IsUnsure}
use Rattle.book.specs.Books.{rules_of}
use Rattle.book.specs.Calls.{EntrySays, StrikingSays, RuleSays, JudgingSays, ListingSays, taken_by, ruled_by, judged_by, listed_by}
use Rattle.book.specs.Plain.{Asked, Told, entering, striking, ruling, judging, listing}
use Rattle.book.specs.Queries.{Counts}
use Rattle.book.specs.Runs.{LivesOn}
use Rattle.book.specs.declared.refusal.Refusal.{Refusal as BookRefusal}
use Rattle.commands.specs.Lines.{line_refusal, line_command}
use Rattle.commands.specs.Tasks.{Task, enter, strike, rule, verdict, sheet, conflicts}
use Rattle.script.specs.declared.counter.Counter.{Counter}
use Rattle.script.specs.declared.faults.Fault.{Fault}
use Rattle.script.specs.declared.faults.Fault.TheVariants.{Script, Plan, Book}
use Rattle.script.specs.declared.reply.Reply.{Reply}
use Rattle.script.specs.declared.reply.Reply.TheVariants.{Taken, Sure, Unsure, Listed, Conflicts}
use Rattle.script.specs.declared.reply.Said.{Said}

-- the rink's relations: Ice, Held, Void and Flood have a pad and a slot, Party has a club too
abbrev pub rink_arity : ℕ → ℕ
rink_arity = arity_in (2 ∷ 2 ∷ 2 ∷ 3 ∷ 2 ∷ [])

-- the rows that a counter holds, and its rules
abbrev pub store_of : Counter → Store
store_of c = table_model c.book.source

abbrev pub rules_in : Counter → List Denial
rules_in c = rules_of c.book.log

-- what the book tells of a call is replied so, and its refusal is handed on
abbrev pub handed : {A : Type 0} → (A → Reply) → Result A BookRefusal → Result Reply Fault
handed reply (Ok done) = Ok (reply done)
handed reply (Err e) = Err (Book e)

-- what is replied to a verdict
abbrev pub judged : Verdict → Reply
judged IsSure = Sure
judged (IsUnsure n) = Unsure

-- A counter that held the first rows and rules holds the second ones now; the lines of a sheet that it tells are at the front of these.
module _ (s : Store) (rules : List Denial) (s' : Store) (rules' : List Denial) (lines : List Line) where
  -- nothing changes
  abbrev pub Stays : Type 0
  Stays = (s' ≡ s) × (rules' ≡ rules)

  -- a fault that is met is told, and nothing changes; else the rest decides
  abbrev pub Unless : Option Fault → (Result Reply Fault → Type 0) → Result Reply Fault → Type 0
  Unless None Rest result = Rest result
  Unless (Some fault) Rest result = Stays × (result ≡ Err fault)

  -- a call of the book does what it promises, every lawful life so far goes on with it, and its outcome is replied
  abbrev pub CallSays : {A : Type 0} → (Result A BookRefusal → Type 0) → Asked → (Result A BookRefusal → Told) → (A → Reply) → Result Reply Fault → Type 0
  CallSays {A} Promised asked told reply result =
      (outcome : Result A BookRefusal) × Promised outcome × LivesOn s rules s' rules' asked (told outcome) × (result ≡ handed reply outcome)

  -- a verdict, for which 256 mark bytes and twelve rows are lent
  abbrev pub VerdictSays : List Node × List ℕ → Result Reply Fault → Type 0
  VerdictSays (nodes, columns) result =
      (core : List Row) × ((core' : List Row) ×
      CallSays (λ o. JudgingSays s rules nodes columns 256 core core' o × Stays) (judging nodes columns 256 12) (judged_by core') judged result)

  -- a sheet, for which 256 mark bytes and 256 lines are lent
  abbrev pub SheetSays : List Node → Result Reply Fault → Type 0
  SheetSays nodes result =
      (before : List Line) × CallSays (λ o. ListingSays s rules nodes 256 before lines o × Stays) (listing nodes 256 256) (listed_by lines) (Listed (plan_width nodes)) result

  -- what comes of a task; a verdict and a sheet fill a plan first
  abbrev pub TaskSays : Task → Result Reply Fault → Type 0
  TaskSays (enter row) result = CallSays (λ o. EntrySays s s' rules row o × (rules' ≡ rules)) (entering row) taken_by (λ place. Taken) result
  TaskSays (strike row) result = CallSays (λ o. StrikingSays s s' row o × (rules' ≡ rules)) (striking row) taken_by (λ place. Taken) result
  TaskSays (rule r) result = CallSays (λ o. RuleSays s rules rules' r o × (s' ≡ s)) (ruling r) ruled_by (λ number. Taken) result
  TaskSays (verdict asked) result = Unless (option_map Plan (fill_refusal asked.0)) (VerdictSays asked) result
  TaskSays (sheet nodes) result = Unless (option_map Plan (fill_refusal nodes)) (SheetSays nodes) result
  TaskSays conflicts result = Stays × ((n : ℕ) × (result ≡ Ok (Conflicts n)) × Counts s rules n)

  -- what comes of a line
  abbrev pub DoSays : List ℕ → Result Reply Fault → Type 0
  DoSays line result = Unless (option_map Script (line_refusal line)) (λ r. (task : Task) × (line_command line ≡ Some task) × TaskSays task r) result

-- what comes of a task, from one counter to the next
abbrev pub Follows : Counter → Counter → Task → Result Reply Fault → Type 0
Follows before after = TaskSays (store_of before) (rules_in before) (store_of after) (rules_in after) after.sheet

-- and what comes of a line
abbrev pub Does : Counter → Counter → List ℕ → Result Reply Fault → Type 0
Does before after = DoSays (store_of before) (rules_in before) (store_of after) (rules_in after) after.sheet

-- the line's number is one more than the lines told before, and its outcome is what comes of it
pub record TellSays (before after : Counter) (line : List ℕ) (said : Said) : Type 0 where
  pub counted : after.lines ≡ min (before.lines + 1) (2 ^ 64 - 1)
  pub number : said.line ≡ after.lines
  pub outcome : Does before after line said.outcome
