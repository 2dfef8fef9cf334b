-- A way from its number, bit by bit.
use Rattle.std.proofs.Common.{◌≡◌, ℕ, suc, ◌+◌, ◌-◌, ◌/◌, ◌%◌, ◌*◌, ◌^◌, ◌<◌, ◌≤◌, Bool, eqb, List, [], ◌∷◌, ◌++◌, length, take, set, sym, ap, ◌∙◌, arith, append_assoc}
use Rattle.std.proofs.Math.Nat.{mod-eq_of_lt, one-mul}
use Rattle.std.proofs.Math.Pow.{pow_mono}
use Rattle.std.proofs.lemmas.List.{take_more_set}
use Rattle.cores.specs.Ways.{bits}

pub bit_more : (way : List Bool) (rest k : ℕ) (bs : List Bool) → k < 6 → length way ≡ 6 → take k way ++ bits rest (6 - k) ≡ bs → take (k + 1) (set way k (eqb (rest % 2) 1)) ++ bits (rest / 2) (6 - (k + 1)) ≡ bs
bit_more way rest k bs lt six h =
    let b : Bool = eqb (rest % 2) 1 in
    let e : 6 - k ≡ suc (6 - (k + 1)) = omega arith in
    ap (λ t. t ++ bits (rest / 2) (6 - (k + 1))) (take_more_set way k b (omega arith))
    ∙ append_assoc (take k way) (b ∷ []) (bits (rest / 2) (6 - (k + 1))) ∙ sym (ap (λ n. take k way ++ bits rest n) e) ∙ h

-- the number of ways, as the loop computes it
pub shifted : (n : ℕ) → n ≤ 6 → 1 * 2 ^ n % 18446744073709551616 ≡ 2 ^ n
shifted n h = let k = pow_mono {i = n} {j = 6} h in mod-eq_of_lt (omega (arith, one-mul (2 ^ n))) ∙ one-mul (2 ^ n)
