-- A set of rows as a set of places: those where its rows stand.
use Rattle.std.proofs.Common.{◌≡◌, ℕ, Bool, true, false, not, ◌&&◌, ◌||◌, List, [], ◌∷◌, ◌++◌, map, get_or, is_some, Some, None, Option, sym, refl, ap, ◌∙◌, subst, ap₂, inl, inr}
use mathlib.Core.List.{Memᴰ}
use Rattle.std.proofs.lemmas.Bool.{both_ways, and_parts, or_cases}
use Rattle.store.specs.Held.{given}
use Rattle.store.specs.Lists.{any, all}
use Rattle.store.specs.Places.{OnceIn}
use Rattle.store.specs.Rows.{same_row}
use Rattle.store.specs.declared.row.Row.{Row}
use Rattle.store.proofs.Alike.{same_row_is}
use Rattle.rules.specs.Listing.{rows_at, is_held}
use Rattle.rules.specs.Readings.{clear}
use Rattle.rules.specs.Sets.{Rows, among, with}
use Rattle.rules.proofs.Choosing.{at_pick}
use Rattle.rules.proofs.Members.{row_in}
use Rattle.cores.specs.Backing.{clear_places, all_held, HeldIn}

abbrev pub say_row : Rows → Option Row → Bool
say_row R (Some row) = R row
say_row R None = false

abbrev pub on_places : List (Option Row) → Rows → ℕ → Bool
on_places table R p = say_row R (get_or table p None)

-- no row stands at a place that has none
pub on_row : (table : List (Option Row)) (R : Rows) (p : ℕ) → on_places table R p ≡ true → (row : Row) × (get_or table p None ≡ Some row) × (R row ≡ true)
on_row table R p h = go (get_or table p None) refl h
  where
    go : (o : Option Row) → get_or table p None ≡ o → say_row R o ≡ true → (row : Row) × (get_or table p None ≡ Some row) × (R row ≡ true)
    go (Some row) e k = (row, e, k)
    go None e k = absurd (both_ways false refl k)

all_rows : (table : List (Option Row)) (R : Rows) (places : List ℕ) → all_held table places ≡ true → all R (rows_at table places) ≡ all (on_places table R) places
all_rows table R [] h = refl
all_rows table R (p ∷ places) h =
    let (a, b) = and_parts (is_held (get_or table p None)) (all_held table places) h in
    step (get_or table p None) a ∙ ap (λ t. on_places table R p && t) (all_rows table R places b)
  where
    step : (o : Option Row) → is_held o ≡ true → all R (given o ++ rows_at table places) ≡ (say_row R o && all R (rows_at table places))
    step (Some row) e = refl
    step None e = absurd (both_ways false refl e)

any_rows : (table : List (Option Row)) (R : Rows) (C : List (List ℕ)) → HeldIn table C → any (all R) (map (rows_at table) C) ≡ any (all (on_places table R)) C
any_rows table R [] h = refl
any_rows table R (c ∷ C) h = ap₂ ◌||◌ (all_rows table R c (h c (Memᴰ.head refl))) (any_rows table R C (λ x m. h x (Memᴰ.tail m)))

-- it includes a whole conflict just where its places do
pub clear_rows : (table : List (Option Row)) (R : Rows) (C : List (List ℕ)) → HeldIn table C → clear (map (rows_at table) C) R ≡ clear_places C (on_places table R)
clear_rows table R C h = ap not (any_rows table R C h)

module _ (table : List (Option Row)) (once : OnceIn table) where
  pub one_place : (p q : ℕ) (row : Row) → get_or table p None ≡ Some row → get_or table q None ≡ Some row → p ≡ q
  one_place p q row e f = once p q (ap is_some e, e ∙ sym f)

  -- with one row more, one place more
  pub with_place : (R : Rows) (p : ℕ) (row : Row) → get_or table p None ≡ Some row → (q : ℕ) → on_places table (with row R) q ≡ true → (q ≡ p → ⊥) → on_places table R q ≡ true
  with_place R p row e q h ne =
      let (x, f, k) = on_row table (with row R) q h in
      elim (or_cases (same_row x row) (R x) k) [
        | inl i ↦ absurd (ne (one_place q p row (f ∙ ap Some (same_row_is x row i)) e))
        | inr i ↦ ap (say_row R) f ∙ i
      ]

  -- the rows at some places stand at these
  pub at_places : (places : List ℕ) (p : ℕ) → on_places table (among (rows_at table places)) p ≡ true → Memᴰ p places
  at_places places p h =
      let (row, e, k) = on_row table (among (rows_at table places)) p h in
      let (q, m, f) = at_pick table places (row_in row (rows_at table places) k) in
      subst (λ x. Memᴰ x places) (one_place q p row f e) m
