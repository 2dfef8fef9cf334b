-- That a table's own facts are what every source keeps; a source hands this on with its meaning.
use Rattle.std.specs.Prelude.{◌≡◌, ℕ, ◌≤◌, Bool, true, false, cond, List, length, Option, ◌≢◌, nat_le, nat_lt, slice_index, refl}
use Rattle.std.proofs.Common.{arith}
use Rattle.std.proofs.lemmas.Bool.{and_parts, leb-true, ltb-true}
use Rattle.store.specs.Rows.{arity_in}
use Rattle.store.specs.Places.{OnceIn, FitIn}
use Rattle.store.specs.Store.{Kept}
use Rattle.store.specs.Tables.{table_model}
use Rattle.store.specs.declared.row.Row.{Row}
use Rattle.store.specs.declared.table.Table.{Table}

guarded : (b : Bool) (n : ℕ) → (b ≡ true → n ≤ 4) → cond b n 0 ≤ 4
guarded true n h = h refl
guarded false n h = omega arith

shut : (b : Bool) (n : ℕ) → (b ≢ true) → cond b n 0 ≡ 0
shut true n h = absurd (h refl)
shut false n h = refl

module _ (bytes : List ℕ) (relation : ℕ) where
  arity_narrow : arity_in bytes relation ≤ 4
  arity_narrow = guarded _ _ (λ h. leb-true (slice_index bytes relation) 4 (and_parts (nat_lt relation 16) (nat_le (slice_index bytes relation) 4) h).1)

  arity_named : 16 ≤ relation → arity_in bytes relation ≡ 0
  arity_named far = shut _ _ (λ h. let near = ltb-true relation 16 (and_parts (nat_lt relation 16) (nat_le (slice_index bytes relation) 4) h).0 in omega arith)

-- arities from bytes, and at most 256 places whose rows fit them and stand once
pub keeps_of : (bytes : List ℕ) (places : List (Option Row)) → length places ≤ 256 → FitIn bytes places → OnceIn places → Kept (record { arity = arity_in bytes; places = places })
keeps_of bytes places few fit once = record { few = few; narrow = arity_narrow bytes; named = arity_named bytes; fit = fit; once = once }

pub table_keeps : (t : Table) → Kept (table_model t)
table_keeps t = keeps_of t.arities t.cells (omega (arith, t.sized)) t.fit t.once
