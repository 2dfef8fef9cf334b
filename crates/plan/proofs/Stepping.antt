-- A list of steps: what is read of it, and what one more is to it.
use Rattle.std.proofs.Common.{◌≡◌, ℕ, ◌+◌, ◌<◌, List, [], ◌∷◌, ◌++◌, map, length, get_or, take, sym, ap, ◌∙◌, ap₂, arith}
use lib.ListN.{length-map}
use Rattle.std.proofs.lemmas.List.{get_or-map, map-append, take_more}
use Rattle.plan.specs.Steps.{nodes_in}
use Rattle.plan.specs.declared.step.Step.{Step}

pub as_many : (steps : List Step) → length steps ≡ length (nodes_in steps)
as_many steps = sym (length-map steps (λ step. step.node))

module _ {A : Type 0} (f : Step → A) (steps : List Step) where
  -- a part of the step at k, where the steps are read
  pub part_read : (read : List Step) → read ≡ steps → (k : ℕ) (d : Step) (a : A) → k < length (nodes_in steps) → f (get_or read k d) ≡ get_or (map f steps) k a
  part_read read e k d a h = ap (λ ss. f (get_or ss k d)) e ∙ sym (get_or-map f steps k d a (omega (arith, as_many steps)))

  -- with one more step the parts are one more of a list
  pub one_more : (s : Step) (xs : List A) (k : ℕ) (a : A) → k < length xs → map f steps ≡ take k xs → f s ≡ get_or xs k a → map f (steps ++ (s ∷ [])) ≡ take (k + 1) xs
  one_more s xs k a h front here = map-append f steps (s ∷ []) ∙ ap₂ (λ l x. l ++ (x ∷ [])) front here ∙ sym (take_more xs k a h)
