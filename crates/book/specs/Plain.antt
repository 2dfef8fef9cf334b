-- The plain book: what every book is held to. It is fed the arguments of the calls, and no answers.
use Rattle.std.specs.Prelude.{◌≡◌, ℕ, ◌+◌, ◌-◌, ◌≤◌, not, ◌⊎◌, List, [], ◌∷◌, ◌++◌, length, Some, None, filter, Option, nat_lt}
use Rattle.std.specs.Option.{option_map}
use Rattle.fault.specs.Questions.{ask}
use Rattle.store.specs.Rows.{same_row, zero_from}
use Rattle.store.specs.declared.row.Row.{Row}
use Rattle.rules.specs.Refusals.{notice_of, rule_refusal}
use Rattle.rules.specs.Rules.{Denial, conflicts, AtMost}
use Rattle.rules.specs.Sets.{among}
use Rattle.plan.specs.declared.line.Line.{Line}
use Rattle.plan.specs.declared.node.Node.{Node}
use Rattle.cores.specs.Sure.{Sure, Core}
use Rattle.verdict.specs.Refusals.{notice_of as verdict_notice}
use Rattle.verdict.specs.Verdicts.{verdict_no}
use Rattle.sheet.specs.Refusals.{notice_of as sheet_notice}
use Rattle.sheet.specs.Sheets.{sheet_no}
use Rattle.book.specs.SureLines.{AllSure, TooMany}

-- arities, the rows held, the number of empty places, and the rules as they were taken
pub record Plain : Type 0 where
  pub arity : ℕ → ℕ
  pub rows : List Row
  pub empty : ℕ
  pub rules : List Denial

-- what a book is asked, by its arguments alone
pub data Asked : Type 0 where
  entering : Row → Asked
  striking : Row → Asked
  ruling : Denial → Asked
  -- a plan's nodes and a line's columns, and how many mark bytes and how many rows the caller has room for
  judging : List Node → List ℕ → ℕ → ℕ → Asked
  -- a plan's nodes, and how many mark bytes and how many lines the caller has room for
  listing : List Node → ℕ → ℕ → Asked

-- what is told of it: it is taken, it is a rule with a number, the line is sure or is not by these rows, these are all sure lines, or
-- it is refused with a number
pub data Told : Type 0 where
  taken : Told
  ruled : ℕ → Told
  sure : Told
  unsure : List Row → Told
  listed : List Line → Told
  refused : ℕ → Told

-- there may be this many conflicts
abbrev pub most : ℕ
most = 1024

-- an entry's questions before the last: is the relation declared, are the further columns zero, is the row absent, is a place empty?
abbrev pub entry_no : Plain → Row → Option ℕ
entry_no p row =
    ask (nat_lt 0 (p.arity row.relation)) 11
    (ask (zero_from (p.arity row.relation) row.columns) 12
    (ask (not (among p.rows row)) 13
    (ask (nat_lt 0 p.empty) 14 None)))

-- a striking's question: is the row held?
abbrev pub strike_no : Plain → Row → Option ℕ
strike_no p row = ask (among p.rows row) 16 None

-- a rule's questions before the last: are there fewer than sixteen rules, and is it a rule over the declared relations?
abbrev pub rule_no : Plain → Denial → Option ℕ
rule_no p rule = ask (nat_lt (length p.rules) 16) 21 (option_map (λ e. (notice_of e).number) (rule_refusal p.arity rule.atoms rule.comparisons))

-- the questions of a verdict: do the plan and the line fit, are there 256 mark bytes, is there room for twelve rows?
abbrev pub judging_no : Plain → List Node → List ℕ → ℕ → ℕ → Option ℕ
judging_no p nodes columns marks room = option_map (λ e. (verdict_notice e).number) (verdict_no p.arity nodes columns marks room)

-- the questions of a sheet before the last: does the plan fit, are there 256 mark bytes?
abbrev pub listing_no : Plain → List Node → ℕ → Option ℕ
listing_no p nodes marks = option_map (λ e. (sheet_notice e).number) (sheet_no p.arity nodes marks)

-- an entry adds its row and uses up one empty place
abbrev pub with_row : Plain → Row → Plain
with_row p row = record { arity = p.arity; rows = row ∷ p.rows; empty = p.empty - 1; rules = p.rules }

-- a striking removes its row and gives one empty place back
abbrev pub without_row : Plain → Row → Plain
without_row p row = record { arity = p.arity; rows = filter (λ r. not (same_row r row)) p.rows; empty = p.empty + 1; rules = p.rules }

-- a rule is put last
abbrev pub with_rule : Plain → Denial → Plain
with_rule p rule = record { arity = p.arity; rows = p.rows; empty = p.empty; rules = p.rules ++ (rule ∷ []) }

-- where a first question is answered No, the call is refused with its number and changes nothing; else the rest decides
abbrev pub Unless : Option ℕ → (Told → Plain → Type 0) → Plain → Told → Plain → Type 0
Unless None rest p told q = rest told q
Unless (Some n) rest p told q = (told ≡ refused n) × (q ≡ p)

-- the last question: where it holds the call is done, and else refused with its number
abbrev pub If : Type 0 → ℕ → Told → Plain → Plain → Told → Plain → Type 0
If question n granted done p told q = (question × (told ≡ granted) × (q ≡ done)) ⊎ ((question → ⊥) × (told ≡ refused n) × (q ≡ p))

-- a verdict tells that the line is sure, or rows that are a core
abbrev pub Judged : Plain → List Node → List ℕ → Told → Type 0
Judged p nodes columns taken = ⊥
Judged p nodes columns (ruled n) = ⊥
Judged p nodes columns sure = Sure p.rows (conflicts p.rows p.rules) nodes columns
Judged p nodes columns (unsure core) = Core p.rows (conflicts p.rows p.rules) nodes columns core
Judged p nodes columns (listed lines) = ⊥
Judged p nodes columns (refused n) = ⊥

-- a sheet tells all sure lines; where there is no room for so many, it is refused
abbrev pub Sheet : Plain → List Node → ℕ → Told → Type 0
Sheet p nodes room taken = ⊥
Sheet p nodes room (ruled n) = ⊥
Sheet p nodes room sure = ⊥
Sheet p nodes room (unsure core) = ⊥
Sheet p nodes room (listed lines) = (length lines ≤ room) × AllSure p.rows (conflicts p.rows p.rules) nodes lines
Sheet p nodes room (refused n) = (n ≡ 45) × TooMany p.rows (conflicts p.rows p.rules) nodes room

-- the plain book p, asked this, tells that and becomes q
abbrev pub Steps : Plain → Asked → Told → Plain → Type 0
Steps p (entering row) told q = Unless (entry_no p row) (If (AtMost most (row ∷ p.rows) p.rules) 15 taken (with_row p row) p) p told q
Steps p (striking row) told q = Unless (strike_no p row) (λ t r. (t ≡ taken) × (r ≡ without_row p row)) p told q
Steps p (ruling rule) told q = Unless (rule_no p rule) (If (AtMost most p.rows (p.rules ++ (rule ∷ []))) 25 (ruled (length p.rules)) (with_rule p rule) p) p told q
Steps p (judging nodes columns marks room) told q = Unless (judging_no p nodes columns marks room) (λ t r. Judged p nodes columns t × (r ≡ p)) p told q
Steps p (listing nodes marks room) told q = Unless (listing_no p nodes marks) (λ t r. Sheet p nodes room t × (r ≡ p)) p told q
