-- What a result tells after `map_err(..)?`, where the function goes on.
use Rattle.std.proofs.Common.{◌≡◌, Ok, Err, Result, MatchResult, sym, ap, ◌∙◌, subst}
use Rattle.std.specs.Result.{is_ok}
use Rattle.std.proofs.lemmas.Bool.{both_ways}

pub went_on : {T E D : Type 0} (P : T → Type 0) (Q R : E → Type 0) (r : Result T E) (mapped : Result T D) (x : T)
    → mapped ≡ Ok x → MatchResult r (λ y. mapped ≡ Ok y) R → is_ok mapped ≡ is_ok r → MatchResult r P Q → P x
went_on P Q R (Ok y) mapped x was same variant told = let both : Ok y ≡ Ok x = sym same ∙ was in let e : y ≡ x = cc in subst P e told
went_on P Q R (Err e) mapped x was same variant told = absurd (both_ways (is_ok mapped) variant (ap is_ok was))
