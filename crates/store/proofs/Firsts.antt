-- The first thing of a slice that passes a test, as `position` tells it.
use Rattle.std.proofs.Common.{◌≡◌, ℕ, ◌<◌, cond, Bool, true, false, List, length, get_or, Some, None, Option, Iter, refl, sym, ap, subst, nat_lt, arith}
use Rattle.std.specs.Prelude.{MatchOption}
use Rattle.std.specs.Fn.{Called}
use Rattle.std.specs.Iterator.{YieldsThen}
use Rattle.std.specs.List.{FoldsTo, position_or_len, list_any}
use Rattle.std.specs.Slice.Iter.{iter_rest}
use Rattle.std.proofs.iter.Yields.{fronts}
use Rattle.std.proofs.lemmas.Bool.{ltb-true, ltb-false}
use Rattle.std.proofs.lemmas.Iterator.{YieldsList-from_slice}
use Rattle.std.proofs.lemmas.Iterator.Search.{position_from_yields_List}
use Rattle.std.proofs.lemmas.List.Folds.{list_any_none}
use Rattle.std.proofs.lemmas.List.Quantifiers.{position-Some}
use Rattle.std.proofs.lemmas.List.Sums.{fails_before_first}
use denote.Param.Members.{Mut}
use denote.Ref.{Bor}

module _ {A : Type 0} (test : A → Bool) where
  -- it stands inside and passes, and none before it does; or none at all passes
  abbrev pub First : List A → Option ℕ → Type 0
  First xs r = MatchOption r (list_any test xs ≡ false) (λ i. (i < length xs) × ((d : A) → (test (get_or xs i d) ≡ true) × ((k : ℕ) → k < i → test (get_or xs k d) ≡ false)))

  first_is : (xs : List A) (b : Bool) → nat_lt (position_or_len test xs) (length xs) ≡ b → First xs (cond b (Some (position_or_len test xs)) None)
  first_is xs true inside =
      let at = λ (d : A). position-Some test xs (position_or_len test xs) d (ap (λ b. cond b (Some (position_or_len test xs)) None) inside) in
      (ltb-true _ _ inside, λ d. ((at d).1, (at d).2))
  first_is xs false outside = list_any_none test xs (λ k d lt. fails_before_first test xs k d (let past = ltb-false _ _ outside in omega arith))

  -- what a call of `position` over a slice tells, where the closure is the test
  pub first_from_position : {F : Type 0} {g : Mut F (Bor A × Unit {0}) Bool} {s u : Iter A} {f : F} {r : Option ℕ} (xs : List A)
      → (ys : List (Bor A)) × (o : Option (Bor A)) × (j : F) × YieldsThen fronts s ys o u × FoldsTo (λ p x q. Called g p (x, tt) false q) f ys j × MatchOption o (r ≡ None) (λ x. (r ≡ Some (length ys)) × ((h : F) × Called g j (x, tt) true h))
      → iter_rest s ≡ xs → ((x : Bor A) (b : Bool) (q : F) → Called g f (x, tt) b q → (q ≡ f) × (b ≡ test x.now)) → First xs r
  first_from_position {u = u} {f = f} {r = r} xs ran rest is =
      subst (First xs) (sym (position_from_yields_List test u f r ran (YieldsList-from_slice xs rest) is)) (first_is xs (nat_lt (position_or_len test xs) (length xs)) refl)
