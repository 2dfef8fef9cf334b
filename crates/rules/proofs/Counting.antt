-- There are as many different conflicts of rows as listed ones.
use Rattle.std.proofs.Common.{◌≡◌, suc, Bool, true, List, [], ◌∷◌, length, Option, sym, refl, ap, ◌∙◌, subst, inl, inr, arith}
use mathlib.Core.List.Memᴰ
use mathlib.Core.List.{Memᴰ}
use Rattle.std.proofs.lemmas.Bool.{and_parts, and_from, cases_lt, le-leb, leb-true}
use Rattle.store.specs.Lists.{any, all, same_numbers}
use Rattle.store.specs.Places.{OnceIn}
use Rattle.store.specs.declared.row.Row.{Row}
use Rattle.store.proofs.Alike.{same_numbers_refl, same_numbers_is}
use Rattle.store.proofs.Tests.{all_at, all_put}
use Rattle.rules.specs.Sets.{among, distinct, same_rows}
use Rattle.rules.specs.Rules.{Denial, breaks, forbidden, AtMost}
use Rattle.store.specs.Held.{rows_of}
use Rattle.rules.specs.Listing.{Listed, Lists, rows_at, is_conflict, same_places}
use Rattle.rules.specs.Laws.{Counted, TooMany, OneTooMany}
use Rattle.rules.proofs.Members.{row_in, row_has}
use Rattle.rules.proofs.Apart.{apart_first, apart_rest, apart_put, no_more}
use Rattle.rules.proofs.Ascents.{same_set, one_order}
use Rattle.rules.proofs.Choosing.{places_same}
use Rattle.rules.proofs.OnePlace.{conflict_parts}
use Rattle.rules.proofs.Placed.{places_of, rows_in_lem, rows_of_lem, placed, Stands, stands}

module _ (table : List (Option Row)) (rules : List Denial) where
  abbrev broken : List Row → Bool
  broken c = any (λ rule. breaks rule c) rules

  -- c is held, and these are its places
  abbrev At : List Row → Listed → Type 0
  At c l = (all (among (rows_of table)) c ≡ true) × (l.places ≡ places_of table c)

  part_at : (a b : List Row) (l : Listed) → At a l → At b l → all (among b) a ≡ true
  part_at a b l (h, e) (k, f) = all_put (among b) a (λ r m. row_has (rows_in_lem table b r (subst (λ places. Memᴰ r (rows_at table places)) (sym e ∙ f) (rows_of_lem table a h r m))))

  -- different conflicts of rows are no more than the listed ones
  pub at_most : (listed : List Listed) → Lists (is_conflict table rules) listed → AtMost (length listed) (rows_of table) rules
  at_most listed ls cs each apart = no_more same_rows At (λ a b l p q. and_from (all (among b) a) (all (among a) b) (part_at a b l p q) (part_at b a l q p)) cs listed apart
      (λ c m. let (h, b) = and_parts (all (among (rows_of table)) c) (broken c) (all_at (forbidden (rows_of table) rules) m each) in
      let (k, is) = placed table rules c h b in
      let l : Listed = record { places = places_of table c; rule = k } in (l, ls.full l is, (h, refl)))

  rows_over : (a b : Listed) (d e : List Row) → Stands table rules a d → Stands table rules b e → all (among e) d ≡ true → (r : Row) → Memᴰ r (rows_at table a.places) → Memᴰ r (rows_at table b.places)
  rows_over a b d e s t sub r m = row_in r (rows_at table b.places)
      (all_at (among (rows_at table b.places)) (row_in r e (all_at (among e) (row_in r d (all_at (among d) m s.whole)) sub)) t.part)

  module _ (once : OnceIn table) where
    -- listed conflicts with the same rows have the same places
    same_at : (a b : Listed) (d e : List Row) → is_conflict table rules a ≡ true → is_conflict table rules b ≡ true → Stands table rules a d → Stands table rules b e → same_rows d e ≡ true → same_places a b ≡ true
    same_at a b d e h k s t same =
        let (up, ah, af) = conflict_parts table rules a h in
        let (vp, bh, bf) = conflict_parts table rules b k in
        let (de, ed) = and_parts (all (among e) d) (all (among d) e) same in
        let p : a.places ≡ b.places = one_order a.places b.places up vp
        (same_set a.places b.places (places_same table once a.places b.places ah (rows_over a b d e s t de)) (places_same table once b.places a.places bh (rows_over b a e d t s ed))) in
        subst (λ x. same_numbers a.places x ≡ true) p (same_numbers_refl a.places)

    -- the conflicts of rows of some listed ones
    record Spread (some : List Listed) (ds : List (List Row)) : Type 0 where
      long : length ds ≡ length some
      each : all (forbidden (rows_of table) rules) ds ≡ true
      apart : distinct same_rows ds ≡ true
      from : (d : List Row) → Memᴰ d ds → (c : Listed) × Memᴰ c some × Stands table rules c d

    spread : (some : List Listed) → all (is_conflict table rules) some ≡ true → distinct same_places some ≡ true → (ds : List (List Row)) × Spread some ds
    spread [] h k = ([], record { long = refl; each = refl; apart = refl; from = λ d m. absurd (Memᴰ.not-nil m) })
    spread (c ∷ some) h k =
        let (is, rest) = and_parts (is_conflict table rules c) (all (is_conflict table rules) some) h in
        let (d, s) = stands table rules c is in
        let (ds, so) = spread some rest (apart_rest same_places c some k) in (
          d ∷ ds,
          record {
            long = ap suc so.long;
            each = and_from (forbidden (rows_of table) rules d) (all (forbidden (rows_of table) rules) ds) (and_from (all (among (rows_of table)) d) (broken d) s.held s.breaking) so.each;
            apart = apart_put same_rows d ds (λ e m same. let (b, n, t) = so.from e m in
                apart_first same_places c some k n (same_at c b d e is (all_at (is_conflict table rules) n rest) s t same)) so.apart;
            from = λ e m. elim (Memᴰ.cases_cons m) [
              | inl f ↦ (c, Memᴰ.head refl, subst (λ x. Stands table rules c x) (sym f) s)
              | inr n ↦ let (b, i, t) = so.from e n in (b, Memᴰ.tail i, t)
            ];
          },
        )

pub too_many : TooMany
too_many table once rules some h k n l most = let (ds, so) = spread table rules once some h k in omega (arith, so.long, most ds so.each so.apart)

pub one_too_many : OneTooMany
one_too_many table once rules listed right apart c is free =
    too_many table once rules (c ∷ listed) (and_from (is_conflict table rules c) (all (is_conflict table rules) listed) is (all_put (is_conflict table rules) listed right))
    (apart_put same_places c listed (λ b m s. free b m (sym (same_numbers_is c.places b.places s))) apart) (length listed) (omega arith)

pub counted : Counted
counted table once rules listed ls n = (
  (λ h cs each apart. omega (arith, leb-true (length listed) n h, at_most table rules listed ls cs each apart)),
  (λ most. elim (cases_lt n (length listed)) [
    | inl l ↦ absurd (too_many table once rules listed (all_put (is_conflict table rules) listed ls.right) ls.once n l most)
    | inr g ↦ le-leb (length listed) n g
  ]),
)
