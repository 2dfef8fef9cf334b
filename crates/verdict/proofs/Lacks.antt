-- What a conflict lacks, one place on.
use Rattle.std.proofs.Common.{◌≡◌, ℕ, ◌+◌, ◌<◌, Bool, true, false, ◌&&◌, ◌||◌, eqb, List, [], ◌∷◌, length, get_or, take, refl, ap, ◌∙◌, arith}
use Rattle.std.proofs.lemmas.Bool.{and_from, eq-eqb}
use Rattle.std.proofs.lemmas.List.{take_more}
use Rattle.std.proofs.lemmas.List.Folds.{list_all-append, list_all_more, list_any_more}
use Rattle.store.specs.Lists.{all}
use Rattle.cores.specs.Backing.{one_of, without}
use Rattle.verdict.specs.Marking.{is_in}
use Rattle.verdict.specs.Lacking.{LackSays}
use Rattle.verdict.specs.declared.marks.Lack.{Lack}
use Rattle.verdict.specs.declared.marks.Lack.TheVariants.{Nothing, One, More}
use Rattle.verdict.proofs.Places.{without_append, all_without}

module _ (marks xs : List ℕ) (i : ℕ) (lt : i < length xs) where
  here : ℕ
  here = get_or xs i 0

  -- a place that is in
  pub lack_in : (lack : Lack) → is_in marks (get_or xs i 0) ≡ true → LackSays marks (take i xs) lack → LackSays marks (take (i + 1) xs) lack
  lack_in Nothing e h = list_all_more (is_in marks) xs i 0 lt ∙ and_from _ _ h e
  lack_in (One p) e (has, out, rest) = (
    list_any_more (eqb p) xs i 0 lt ∙ ap (λ b. b || eqb p (get_or xs i 0)) has,
    out,
    ap (λ t. all (is_in marks) (without p t)) (take_more xs i 0 lt) ∙ ap (all (is_in marks)) (without_append p (take i xs) (get_or xs i 0 ∷ []))
        ∙ list_all-append (is_in marks) (without p (take i xs)) (without p (get_or xs i 0 ∷ []))
        ∙ and_from _ _ rest (all_without (is_in marks) p (get_or xs i 0 ∷ []) (and_from _ _ e refl)),
  )
  lack_in More e h = list_all_more (is_in marks) xs i 0 lt ∙ ap (λ b. b && is_in marks (get_or xs i 0)) h

  -- the first that is not
  pub lack_one : is_in marks (get_or xs i 0) ≡ false → LackSays marks (take i xs) Nothing → LackSays marks (take (i + 1) xs) (One (get_or xs i 0))
  lack_one out h = (
    list_any_more (eqb (get_or xs i 0)) xs i 0 lt ∙ or_yes (one_of (take i xs) (get_or xs i 0)) _ (eq-eqb (get_or xs i 0) (get_or xs i 0) refl),
    out,
    ap (λ t. all (is_in marks) (without (get_or xs i 0) t)) (take_more xs i 0 lt) ∙ ap (all (is_in marks)) (without_append (get_or xs i 0) (take i xs) (get_or xs i 0 ∷ []))
        ∙ list_all-append (is_in marks) (without (get_or xs i 0) (take i xs)) (without (get_or xs i 0) (get_or xs i 0 ∷ []))
        ∙ and_from _ _ (all_without (is_in marks) (get_or xs i 0) (take i xs) h) (alone (get_or xs i 0)),
  )
    where
      or_yes : (a b : Bool) → b ≡ true → (a || b) ≡ true
      or_yes true b e = refl
      or_yes false b e = e

      alone : (x : ℕ) → all (is_in marks) (without x (x ∷ [])) ≡ true
      alone x = grind (arith, eq-eqb x x refl)
