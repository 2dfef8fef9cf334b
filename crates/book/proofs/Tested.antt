-- A list that is exact is so by tests, and the other way round.
use Rattle.std.proofs.Common.{◌≡◌, Bool, true, ◌&&◌, eqb, List, sym, refl, subst}
use mathlib.Core.List.{Memᴰ}
use Rattle.std.proofs.lemmas.Bool.{and_parts, and_from, eqb-true, eq-eqb}
use Rattle.store.proofs.Tests.{any_pick, any_put}
use Rattle.store.proofs.Alike.{same_numbers_is, same_numbers_refl}
use Rattle.store.specs.Store.{Store}
use Rattle.rules.specs.Entries.{listing}
use Rattle.rules.specs.Listing.{Listed, same_places}
use Rattle.book.specs.Books.{Exact, has_listed, Right, Full, Once}
use Rattle.book.specs.declared.log.Log.{Log}

abbrev alike : Listed → Listed → Bool
alike c d = same_places c d && eqb c.rule d.rule

alike_is : (c d : Listed) → alike c d ≡ true → c ≡ d
alike_is c d h =
    let (p, r) = and_parts (same_places c d) (eqb c.rule d.rule) h in
    let e = same_numbers_is c.places d.places p in
    let f = eqb-true c.rule d.rule r in
    λ i. record { places = e i; rule = f i }

alike_refl : (c : Listed) → alike c c ≡ true
alike_refl c = and_from (same_places c c) (eqb c.rule c.rule) (same_numbers_refl c.places) (eq-eqb c.rule c.rule refl)

has_member : {listed : List Listed} {c : Listed} → Memᴰ c listed → has_listed listed c ≡ true
has_member {c = c} m = any_put (alike c) m (alike_refl c)

member_has : (listed : List Listed) (c : Listed) → has_listed listed c ≡ true → Memᴰ c listed
member_has listed c h = let (d, m, e) = any_pick (alike c) listed h in subst (λ x. Memᴰ x listed) (sym (alike_is c d e)) m

module _ (s : Store) (log : Log) where
  pub right_of : Exact s log → Right s log
  right_of exact c h = exact.right c (member_has (listing log.conflicts) c h)

  pub full_of : Exact s log → Full s log
  full_of exact c h = has_member (exact.full c h)

  pub exact_of : Right s log → Full s log → Once log → Exact s log
  exact_of right full once = record { right = λ c m. right c (has_member m); full = λ c h. member_has (listing log.conflicts) c (full c h); once = once }
