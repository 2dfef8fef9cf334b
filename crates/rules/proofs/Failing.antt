-- The first element of a list that fails a test.
use Rattle.std.proofs.Common.{◌≡◌, suc, ◌+◌, Bool, true, false, cond, not, List, [], ◌∷◌, Some, None, Option, sym, refl, ◌∙◌, arith}
use Rattle.std.specs.List.{list_any, position_or_len}
use Rattle.std.proofs.lemmas.Bool.{and_from, or_parts, not-true, not-false}
use Rattle.std.proofs.lemmas.List.Folds.{list_all_at}
use Rattle.std.proofs.lemmas.List.Recursion.{is_position_or_len}
use Rattle.std.proofs.lemmas.List.Sums.{position_or_len_is}
use Rattle.store.specs.Lists.{all}
use Rattle.store.proofs.Firsts.{First}
use Rattle.rules.specs.Refusals.{first_failing, FailSays}

module _ {A : Type 0} (test : A → Bool) where
  abbrev pub failing : A → Bool
  failing x = not (test x)

  failing_is : (xs : List A) → first_failing test xs ≡ position_or_len failing xs
  failing_is = is_position_or_len (first_failing test) failing refl
      (λ x xs. elim (test x) as (λ b. cond b (suc (first_failing test xs)) 0 ≡ cond (not b) 0 (1 + first_failing test xs)) [ true ↦ omega arith | false ↦ refl ])

  none_fails : (xs : List A) → list_any failing xs ≡ false → all test xs ≡ true
  none_fails [] h = refl
  none_fails (x ∷ xs) h = let (a, b) = or_parts (failing x) (list_any failing xs) h in and_from (test x) (all test xs) (not-false (test x) a) (none_fails xs b)

  pub fail_says : (xs : List A) (r : Option _) → First failing xs r → FailSays test xs r
  fail_says xs None none = none_fails xs none
  fail_says [] (Some i) (inside, at) = absurd (omega arith)
  fail_says (x ∷ xs) (Some i) (inside, at) =
      let l = x ∷ xs in
      (list_all_at test l i x inside (not-true _ (at x).0), sym (failing_is l ∙ position_or_len_is failing l i x (omega arith) (at x).1 (λ _. (at x).0)))
