-- What a verdict says of a line: that it is sure, or, by a core, that it is not.
use Rattle.std.specs.Prelude.{◌≡◌, ℕ, ◌≤◌, true, false, List, length, filter}
use Rattle.store.specs.Lists.{all}
use Rattle.store.specs.Rows.{same_row}
use Rattle.store.specs.declared.row.Row.{Row}
use Rattle.rules.specs.Sets.{Rows, among, distinct}
use Rattle.rules.specs.Readings.{reading}
use Rattle.plan.specs.Answers.{is_answer}
use Rattle.plan.specs.declared.node.Node.{Node}

-- whichever reading one takes of the rows held, the line is an answer over its rows
abbrev pub Sure : List Row → List (List Row) → List Node → List ℕ → Type 0
Sure rows conflicts nodes columns = (R : Rows) → reading rows conflicts R ≡ true → is_answer nodes (filter R rows) columns ≡ true

-- a core: rows that, where a reading has them all, keep the line from being an answer; so the line is not sure
pub record Core (rows : List Row) (conflicts : List (List Row)) (nodes : List Node) (columns : List ℕ) (core : List Row) : Type 0 where
  -- there are at most twelve, all different, and all are held
  pub few : length core ≤ 12
  pub once : distinct same_row core ≡ true
  pub held : all (among rows) core ≡ true
  -- they stand together: some reading has them all
  pub some : (R : Rows) × (reading rows conflicts R ≡ true) × (all R core ≡ true)
  -- and no reading that has them all has the line
  pub none : (R : Rows) → reading rows conflicts R ≡ true → all R core ≡ true → is_answer nodes (filter R rows) columns ≡ false
