-- What a list of conflicts lists, under another test or with some taken out.
use Rattle.std.proofs.Common.{◌≡◌, Bool, true, ◌&&◌, List, ◌∷◌, ◌++◌, filter, sym, ◌∙◌, subst, inl, inr}
use mathlib.Core.List.Memᴰ
use mathlib.Core.List.{Memᴰ}
use Rattle.std.proofs.lemmas.Bool.{and_parts, and_from}
use Rattle.store.specs.Lists.{same_numbers}
use Rattle.store.proofs.Alike.{same_numbers_is, same_numbers_refl}
use Rattle.store.proofs.Tests.{same_tests}
use Rattle.rules.specs.Listing.{Listed, Lists, same_places}
use Rattle.rules.specs.Choosing.{Between}
use Rattle.rules.proofs.Members.{kept_put, kept_pick}
use Rattle.rules.proofs.Apart.{apart_kept, apart_entered}

-- a list lists the same under a test that says the same
pub lists_like : (f g : Listed → Bool) → ((c : Listed) → f c ≡ g c) → (listed : List Listed) → Lists f listed → Lists g listed
lists_like f g same listed ls = record { right = λ c m. sym (same c) ∙ ls.right c m; full = λ c h. ls.full c (same c ∙ h); once = ls.once }

same_places_sym : (a b : Listed) → same_places a b ≡ same_places b a
same_places_sym a b = same_tests (same_places a b) (same_places b a) (turned a b) (turned b a)
  where
    turned : (a b : Listed) → same_places a b ≡ true → same_places b a ≡ true
    turned a b h = subst (λ x. same_numbers x a.places ≡ true) (same_numbers_is a.places b.places h) (same_numbers_refl a.places)

-- one more conflict, whose places are not listed yet, wherever it is entered
pub between_entered : (least most : Listed → Bool) (c : Listed) (xs ys : List Listed) → Between least most (xs ++ ys) → most c ≡ true →
    ((b : Listed) → Memᴰ b (xs ++ ys) → b.places ≡ c.places → ⊥) → Between least most (xs ++ (c ∷ ys))
between_entered least most c xs ys so is free = record {
  right = λ b m. elim (Memᴰ.append_cases xs m) [
    | inl n ↦ so.right b (Memᴰ.append_left ys n)
    | inr n ↦ elim (Memᴰ.cases_cons n) [ inl e ↦ subst (λ x. most x ≡ true) (sym e) is | inr i ↦ so.right b (Memᴰ.append_right xs i) ]
  ];
  full = λ b h. elim (Memᴰ.append_cases xs (so.full b h)) [ inl n ↦ Memᴰ.append_left (c ∷ ys) n | inr n ↦ Memᴰ.append_right xs (Memᴰ.tail n) ];
  once = apart_entered same_places same_places_sym c xs ys (λ b m s. free b m (sym (same_numbers_is c.places b.places s))) so.once;
}

module _ (f g h : Listed → Bool) (both : (c : Listed) → h c ≡ (f c && g c)) (listed : List Listed) where
  -- where h is f and g, keeping what passes g leaves a list of h
  pub lists_kept : Between h f listed → Lists h (filter g listed)
  lists_kept ls = record {
    right = λ c m. let (i, k) = kept_pick g listed m in both c ∙ and_from (f c) (g c) (ls.right c i) k;
    full = λ c k. kept_put g (ls.full c k) (and_parts (f c) (g c) (sym (both c) ∙ k)).1;
    once = apart_kept same_places g listed ls.once;
  }

  pub lists_narrowed : Lists f listed → Lists h (filter g listed)
  lists_narrowed ls = lists_kept (record { right = ls.right; full = λ c k. ls.full c (and_parts (f c) (g c) (sym (both c) ∙ k)).0; once = ls.once })
