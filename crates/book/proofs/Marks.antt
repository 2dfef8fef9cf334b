-- The mark bytes that a call uses are zero afterwards, so none that was zero is left otherwise.
use Rattle.std.proofs.Common.{◌≡◌, ℕ, zero, suc, List, [], ◌∷◌, ◌++◌, get_or, drop, sym, refl, ap, ◌∙◌, arith}
use Rattle.std.specs.Prelude.{replicate}
use Rattle.std.proofs.lemmas.List.{drop_all}
use Rattle.book.specs.Calls.{StayZero, marks_used, marks_after}
use Rattle.book.specs.Plain.{Asked}

wiped : (n : ℕ) (marks : List ℕ) (p : ℕ) → get_or marks p 0 ≡ 0 → get_or (replicate n 0 ++ drop n marks) p 0 ≡ 0
wiped zero marks p was = was
wiped (suc n) [] zero was = refl
wiped (suc n) [] (suc p) was = ap (λ rest. get_or (replicate n 0 ++ rest) p 0) (drop_all (suc n) [] (omega arith) ∙ sym (drop_all n [] (omega arith))) ∙ wiped n [] p refl
wiped (suc n) (mark ∷ marks) zero was = refl
wiped (suc n) (mark ∷ marks) (suc p) was = wiped n marks p was

-- one call more
pub stay_zero : (asked : Asked) (first before after : List ℕ) → StayZero first before → after ≡ marks_after asked before → StayZero first after
stay_zero asked first before after so is p was = ap (λ marks. get_or marks p 0) is ∙ wiped (marks_used asked) before p (so p was)
