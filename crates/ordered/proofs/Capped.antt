-- A count that is past the end of the list. Assumes nothing.
use Rattle.std.proofs.Common.{◌≡◌, ℕ, min, List, length, take, sym, ap, ◌∙◌, ⊎_elim, arith}
use Rattle.std.proofs.lemmas.List.{take_all}
use Rattle.std.proofs.lemmas.Bool.{cases_lt}

-- taking more than there is takes all
pub take_capped : {X : Type 0} (n count : ℕ) (xs : List X) → n ≡ min count (length xs) → take n xs ≡ take count xs
take_capped n count xs is = ⊎_elim
    (λ lt. let e : n ≡ count = omega arith in ap (λ k. take k xs) e)
    (λ le. take_all n xs (omega arith) ∙ sym (take_all count xs le))
    (cases_lt count (length xs))
