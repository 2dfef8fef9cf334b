-- Looks through a list that are looks through what is made of its things.
use Rattle.std.proofs.Common.{◌≡◌, ℕ, suc, ◌<◌, Bool, ◌||◌, List, [], ◌∷◌, map, length, get_or, Some, None, Option, sym, refl, ap, ap₂, ◌∙◌, arith}
use Rattle.std.proofs.lemmas.List.{length-map, get_or-map}
use Rattle.store.specs.Lists.{any}
use Rattle.store.proofs.Firsts.{First}

module _ {A B : Type 0} (make : A → B) (of_made : B → Bool) (of_thing : A → Bool) where
  -- each thing passes the one test where what is made of it passes the other
  abbrev pub Same : List A → A → Type 0
  Same xs d = (k : ℕ) → k < length xs → of_thing (get_or xs k d) ≡ of_made (make (get_or xs k d))

  pub any_through : (xs : List A) (d : A) → Same xs d → any of_thing xs ≡ any of_made (map make xs)
  any_through [] d same = refl
  any_through (x ∷ xs) d same = ap₂ ◌||◌ (same 0 (omega arith)) (any_through xs d (λ k h. same (suc k) (omega arith)))

  pub first_through : (xs : List A) (d : A) → Same xs d → (r : Option ℕ) → First of_thing xs r → First of_made (map make xs) r
  first_through xs d same None none = sym (any_through xs d same) ∙ none
  first_through xs d same (Some i) (inside, at) =
      let made = λ (k : ℕ) (e : B) (h : k < length xs). ap of_made (get_or-map make xs k d e h) ∙ sym (same k h) in
      (omega (arith, length-map xs make), λ e. (made i e inside ∙ (at d).0, λ k before. made k e (omega arith) ∙ (at d).1 k before))
