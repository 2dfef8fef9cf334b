-- What find tells of a row: whether it is among the rows held.
use Rattle.std.proofs.Common.{◌≡◌, ℕ, is_some, Some, None, Option, sym, ◌∙◌}
use Rattle.store.specs.Held.{rows_of}
use Rattle.store.specs.Store.{Store, FindSays}
use Rattle.store.specs.declared.row.Row.{Row}
use Rattle.store.proofs.HeldRows.{row_held}
use Rattle.store.proofs.Places.{held_at}
use Rattle.plan.specs.Answers.{among}

pub found : (s : Store) (row : Row) (r : Option ℕ) → FindSays s row r → is_some r ≡ among (rows_of s.places) row
found s row (Some p) says = sym (row_held s.places row ∙ held_at s.places p row says.1)
found s row None says = sym (row_held s.places row ∙ says)
