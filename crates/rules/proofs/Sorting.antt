-- Places that are entered one by one into an ordered list.
use Rattle.std.specs.Prelude.{◌≡◌, ℕ, ◌+◌, ◌<◌, ◌≤◌, true, MatchResult, List, [], ◌∷◌, ◌++◌, length, Ok, Err, Result, nat_eq, nat_lt, refl}
use Rattle.std.specs.declared.cmp.Ordering.TheVariants.{Equal}
use Rattle.std.proofs.Common.{sym, ap, subst, ◌∙◌, inl, inr, ⊎_elim, arith}
use mathlib.Core.List.Memᴰ
use mathlib.Core.List.{Memᴰ}
use Rattle.std.specs.Ordering.{is_lt, nat_cmp}
use Rattle.std.specs.List.{list_all}
use Rattle.std.proofs.lemmas.Cmp.{nat_cmp_total}
use Rattle.std.proofs.lemmas.List.{length_push}
use Rattle.std.proofs.lemmas.Bool.{and_parts, and_from, cases_Bool}
use Rattle.std.proofs.lemmas.Bool.Decides.{nat_tests}
use Rattle.ordered.specs.Lists.{Takes, Bars}
use Rattle.ordered.specs.Order.{rises, listed, entered}
use Rattle.ordered.specs.declared.entry.Full.{Full}
use Rattle.ordered.proofs.Entering.{length_entered, member_new, member_old, member_cases, entered_listed}
use Rattle.ordered.proofs.Members.{member_from_listed}
use Rattle.store.specs.Lists.{any, all}
use Rattle.rules.specs.Choosing.{SameSet}
use Rattle.rules.specs.Listing.{ascending}
use Rattle.rules.specs.Searching.{MadeOf}
use Rattle.rules.proofs.Ascents.{same_set, member_of}

-- numbers that are equal in their order are the same
rank_same : (x y : ℕ) → nat_cmp x y ≡ Equal → x ≡ y
rank_same x y e = grind (arith, nat_tests)

below : (x y : ℕ) → is_lt (nat_cmp x y) ≡ true → nat_lt x y ≡ true
below x y h = grind (arith, nat_tests)

all_below : (x : ℕ) (ys : List ℕ) → list_all (λ y. is_lt (nat_cmp x y)) ys ≡ true → all (nat_lt x) ys ≡ true
all_below x [] h = refl
all_below x (y ∷ ys) h = let (a, b) = and_parts (is_lt (nat_cmp x y)) (list_all (λ y. is_lt (nat_cmp x y)) ys) h in and_from (nat_lt x y) (all (nat_lt x) ys) (below x y a) (all_below x ys b)

rises_ascends : (xs : List ℕ) → rises nat_cmp xs ≡ true → ascending xs ≡ true
rises_ascends [] h = refl
rises_ascends (x ∷ xs) h = let (a, b) = and_parts (list_all (λ y. is_lt (nat_cmp x y)) xs) (rises nat_cmp xs) h in and_from (all (nat_lt x) xs) (ascending xs) (all_below x xs a) (rises_ascends xs b)

-- a place that is entered is there after, with those before it and no other
entered_in : (x : ℕ) (xs : List ℕ) → rises nat_cmp xs ≡ true → Memᴰ x (entered nat_cmp x xs)
entered_in x xs up = ⊎_elim
    (λ old. let (y, m, e) = member_from_listed nat_cmp x xs old in subst (λ z. Memᴰ z (entered nat_cmp x xs)) (rank_same y x e) (member_old nat_cmp x y xs m))
    (λ new. member_new nat_cmp x xs new)
    (cases_Bool (listed nat_cmp x xs))

entered_set : (x : ℕ) (seen xs : List ℕ) → rises nat_cmp xs ≡ true → SameSet seen xs → SameSet (seen ++ x ∷ []) (entered nat_cmp x xs)
entered_set x seen xs up same = same_set (seen ++ x ∷ []) (entered nat_cmp x xs)
    (λ p m. elim (Memᴰ.append_cases seen m) [
      | inl n ↦ member_old nat_cmp x p xs (member_of seen xs same p n)
      | inr n ↦ elim (Memᴰ.cases_cons n) [ inl e ↦ subst (λ z. Memᴰ z (entered nat_cmp x xs)) (sym e) (entered_in x xs up) | inr i ↦ absurd (Memᴰ.not-nil i) ]
    ])
    (λ p m. elim (member_cases nat_cmp x p xs m) [
      | inl e ↦ Memᴰ.append_right seen (Memᴰ.head e)
      | inr n ↦ Memᴰ.append_left (x ∷ []) (member_of xs seen (λ q. sym (same q)) p n)
    ])

entered_few : (x : ℕ) (xs : List ℕ) → rises nat_cmp xs ≡ true → length (entered nat_cmp x xs) ≤ length xs + 1
entered_few x xs up = ⊎_elim
    (λ old. let e = ap length (entered_listed nat_cmp_total x xs up old) in omega arith)
    (λ new. let e = length_entered nat_cmp x xs new in omega arith)
    (cases_Bool (listed nat_cmp x xs))

-- the sorted places are those seen, ascending
pub record Sorted (seen sorted : List ℕ) : Type 0 where
  pub few : length sorted ≤ length seen
  pub up : rises nat_cmp sorted ≡ true
  pub same : SameSet seen sorted

-- there is room for the places of three rows
pub sorted_more : {seen sorted after next : List ℕ} (so : Sorted seen sorted) (place : ℕ) → length seen < 3 → next ≡ seen ++ place ∷ [] →
    (r : Result Unit Full) → MatchResult r (λ _. Takes nat_cmp place sorted after) (λ _. Bars nat_cmp place sorted after 3) → Sorted next after
sorted_more so place room more (Err full) h = absurd (omega (arith, h.full, so.few))
sorted_more {seen} {sorted} {after} so place room more (Ok done) h =
    let is = h.list so.up in
    subst (λ l. Sorted l after) (sym more) (record {
      few = omega (arith, ap length is, entered_few place sorted so.up, so.few, length_push seen place);
      up = h.rising so.up;
      same = λ p. entered_set place seen sorted so.up so.same p ∙ sym (ap (λ l. any (nat_eq p) l) is);
    })

pub sorted_made : {seen sorted places : List ℕ} → Sorted seen sorted → places ≡ sorted → (rule : ℕ) → MadeOf seen rule (record { places = places; rule = rule })
sorted_made {sorted = sorted} so is rule = record {
  ascends = ap ascending is ∙ rises_ascends sorted so.up;
  same = λ p. so.same p ∙ sym (ap (any (nat_eq p)) is);
  ruled = refl;
}
