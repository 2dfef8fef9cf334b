-- What is marked after the first choices.
use Rattle.std.proofs.Common.{◌≡◌, ℕ, ◌+◌, ◌<◌, ◌≤◌, false, ◌||◌, eqb, List, [], ◌∷◌, ◌++◌, length, get_or, take, replicate, sym, refl, ap, ◌∙◌, ⊎_elim, arith}
use Rattle.std.proofs.lemmas.Bool.{cases_lt}
use Rattle.std.proofs.lemmas.List.{take_more, get_or_past, get_or-replicate, length-replicate, length-take-le, append-nil}
use Rattle.cores.specs.Backing.{one_of, without, others, backing}
use Rattle.cores.proofs.Others.{push_marks}
use Rattle.verdict.specs.Marking.{is_in, Shows, NoneShut, Adds}
use Rattle.verdict.proofs.Places.{one_append}

-- bytes that are all zero
zero_byte : (n p : ℕ) → ◌≡◌ {A = ℕ} (get_or (replicate n 0) p 0) 0
zero_byte n p = ⊎_elim
    (λ (l : p < n). get_or-replicate n p 0 0 l)
    (λ (l : n ≤ p). get_or_past (replicate n 0) p 0 (omega (arith, length-replicate {A = ℕ} n 0)))
    (cases_lt p n)

none_in : (n p : ℕ) → is_in (replicate n 0) p ≡ false
none_in n p = ap (λ t. eqb t 1) (zero_byte n p)

pub none_shut : (n : ℕ) → NoneShut (replicate n 0)
none_shut n p = ap (λ t. eqb t 2) (zero_byte n p)

module _ (C : List (List ℕ)) (ins outs : List ℕ) where
  others_none : (os : List ℕ) → others C os [] ≡ []
  others_none [] = refl
  others_none (o ∷ os) = refl

  -- before any choice
  pub shows_ins : (n : ℕ) (marks : List ℕ) → Adds ins (replicate n 0) marks → Shows (backing C ins outs []) marks
  shows_ins n marks adds p = adds.in_too p ∙ ap (λ b. b || one_of ins p) (none_in n p) ∙ ap (λ t. one_of t p) (sym (ap (λ t. ins ++ t) (others_none outs) ∙ append-nil ins))

  -- one choice more
  pub shows_more : (choices before after : List ℕ) (k : ℕ) → k < length choices → length choices ≤ length outs → Shows (backing C ins outs (take k choices)) before
      → Adds (without (get_or outs k 0) (get_or C (get_or choices k 0) [])) before after → Shows (backing C ins outs (take (k + 1) choices)) after
  shows_more choices before after k lt few shows adds p =
      let long : length (take k choices) ≡ k = length-take-le k choices (omega arith) in
      let pushed : backing C ins outs (take (k + 1) choices) ≡ backing C ins outs (take k choices) ++ without (get_or outs k 0) (get_or C (get_or choices k 0) []) =
      ap (backing C ins outs) (take_more choices k 0 lt) ∙ push_marks C ins outs (take k choices) (get_or choices k 0) (omega arith)
      ∙ ap (λ n. backing C ins outs (take k choices) ++ without (get_or outs n 0) (get_or C (get_or choices k 0) [])) long in
      adds.in_too p ∙ ap (λ b. b || one_of (without (get_or outs k 0) (get_or C (get_or choices k 0) [])) p) (shows p)
      ∙ sym (one_append (backing C ins outs (take k choices)) (without (get_or outs k 0) (get_or C (get_or choices k 0) [])) p) ∙ ap (λ t. one_of t p) (sym pushed)
