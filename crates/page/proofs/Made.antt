-- What `array::from_fn` makes, where the closure is a function of the index.
use Rattle.std.proofs.Common.{◌≡◌, ℕ, zero, suc, ◌+◌, ◌<◌, List, map, get_or, ◌≤◌, ◌⊎◌, ⊎_elim, subst, sym, refl, ap, ◌∙◌, arith}
use denote.Param.Members.{Mut}
use Rattle.std.proofs.lemmas.List.FromFn.{fill_by_all}
use Rattle.std.specs.Array.{IsFromFnResult, IsFromFnResultFrom}
use Rattle.std.specs.Fn.{Called}
use Rattle.std.specs.List.{range_with_len}

module _ {F B : Type 0} {g : Mut F (ℕ × Unit {0}) B} (h : ℕ → B) (f : F) (is : (i : ℕ) (y : B) (q : F) → Called g f (i, tt) y q → (q ≡ f) × (y ≡ h i)) where
  each : (ys : List B) (n i : ℕ) (p : F) → p ≡ f → IsFromFnResultFrom g p ys i n → (j : ℕ) (d : B) → i ≤ j → j < i + n → get_or ys j d ≡ h j
  each ys zero i p same made j d low high = absurd (omega arith)
  each ys (suc n) i p same (q, y, at, called, rest) j d low high =
      let now = is i y q (subst (λ x. Called g x (i, tt) y q) same called) in
      ⊎_elim
      (λ (here : j ≡ i). ap (λ x. get_or ys x d) here ∙ at.1 d ∙ now.1 ∙ ap h (sym here))
      (λ (later : i + 1 ≤ j). each ys n (i + 1) q now.0 rest j d later (omega arith))
      (side j i low)
    where
      side : (j i : ℕ) → i ≤ j → (j ≡ i) ⊎ (i + 1 ≤ j)
      side j i low = grind arith

  pub made : (ys : List B) (n : ℕ) → IsFromFnResult g f ys n → ys ≡ map h (range_with_len 0 n)
  made ys n r = fill_by_all h ys n (h 0) r.long (λ k inside. each ys n 0 f refl r.each k (h 0) (omega arith) (omega arith))
