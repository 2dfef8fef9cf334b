-- The rows at some places: as many at most, different, and held.
use Rattle.std.proofs.Common.{◌≡◌, ℕ, ◌≤◌, true, List, [], ◌∷◌, ◌++◌, length, get_or, Some, None, Option, sym, refl, ap, ◌∙◌, arith, length-append}
use Rattle.std.specs.Prelude.{nat_eq}
use Rattle.std.proofs.lemmas.Bool.{eq-eqb}
use Rattle.store.specs.Held.{given, rows_of}
use Rattle.store.specs.Lists.{all}
use Rattle.store.specs.Places.{OnceIn}
use Rattle.store.specs.Rows.{same_row}
use Rattle.store.specs.declared.row.Row.{Row}
use Rattle.store.proofs.Alike.{same_row_is}
use Rattle.store.proofs.Tests.{all_put}
use Rattle.rules.specs.Listing.{rows_at}
use Rattle.rules.specs.Sets.{among, distinct}
use Rattle.rules.proofs.Apart.{apart_first, apart_rest, apart_put}
use Rattle.rules.proofs.Choosing.{at_pick}
use Rattle.rules.proofs.Holding.{row_at}
use Rattle.cores.proofs.OnPlaces.{one_place}

module _ (table : List (Option Row)) where
  one_row : (o : Option Row) → length (given o) ≤ 1
  one_row (Some row) = omega arith
  one_row None = omega arith

  -- at each place there is one row at most
  pub rows_few : (places : List ℕ) → length (rows_at table places) ≤ length places
  rows_few [] = omega arith
  rows_few (p ∷ places) = omega (arith, one_row (get_or table p None), rows_few places, length-append (given (get_or table p None)) (rows_at table places))

  module _ (once : OnceIn table) where
    first_once : (p : ℕ) (places : List ℕ) → distinct nat_eq (p ∷ places) ≡ true → (o : Option Row) → get_or table p None ≡ o → distinct same_row (rows_at table places) ≡ true →
        distinct same_row (given o ++ rows_at table places) ≡ true
    first_once p places h None e rest = rest
    first_once p places h (Some row) e rest = apart_put same_row row (rows_at table places)
        (λ x m k. let (q, n, f) = at_pick table places m in apart_first nat_eq p places h n (eq-eqb p q (one_place table once p q row e (f ∙ ap Some (sym (same_row_is row x k)))))) rest

    -- at different places there are different rows
    pub rows_once : (places : List ℕ) → distinct nat_eq places ≡ true → distinct same_row (rows_at table places) ≡ true
    rows_once [] h = refl
    rows_once (p ∷ places) h = first_once p places h (get_or table p None) refl (rows_once places (apart_rest nat_eq p places h))

  -- and each is held
  pub rows_held : (places : List ℕ) → all (among (rows_of table)) (rows_at table places) ≡ true
  rows_held places = all_put (among (rows_of table)) (rows_at table places) (λ row m. let (p, n, e) = at_pick table places m in row_at table row p e)
