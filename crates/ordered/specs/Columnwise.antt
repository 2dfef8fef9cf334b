-- The order of number lists, column by column. Assumes nothing.
use Rattle.std.specs.Prelude.{ℕ, List}
use Rattle.std.specs.declared.cmp.Ordering.{Ordering}
use Rattle.std.specs.Ordering.{nat_cmp}
use Rattle.std.specs.Cmp.{IsTotalOrder, nat_cmp_total}
use Rattle.std.specs.Cmp.Lexicographic.{slice_cmp, lists_total}

-- the first column that differs decides; a list that begins another comes first
abbrev pub columnwise : List ℕ → List ℕ → Ordering
columnwise = slice_cmp nat_cmp

-- elements that are compared by a key, column by column, are in a total order
pub by_key : {X : Type 0} (key : X → List ℕ) → IsTotalOrder (λ (a b : X). columnwise (key a) (key b))
by_key key = record {
  antisymm = λ x y. (lists_total nat_cmp_total).antisymm (key x) (key y);
  trans = λ x y z. (lists_total nat_cmp_total).trans (key x) (key y) (key z);
  congr = λ x y z. (lists_total nat_cmp_total).congr (key x) (key y) (key z);
}
