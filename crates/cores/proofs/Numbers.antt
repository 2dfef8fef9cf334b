-- Each way has a number, whose bits it is.
use Rattle.std.proofs.Common.{◌≡◌, ℕ, zero, suc, ◌+◌, ◌*◌, ◌/◌, ◌%◌, ◌^◌, ◌<◌, ◌≤◌, Bool, true, false, not, ◌&&◌, eqb, List, [], ◌∷◌, ◌++◌, length, take, Option, sym, refl, ap, ◌∙◌, subst, ap₂, arith, take_all, pow-suc, div-one}
use native.Mathlib.Nat.{pow-zero, pow-succ', div-div-eq-div-mul}
use Rattle.std.proofs.lemmas.Bool.{eq-eqb, ne_eqb}
use Rattle.plan.specs.Truths.{named_rows}
use Rattle.cores.specs.Ways.{place_if, ins_of, outs_of, may_be, possible, bits}
use Rattle.cores.specs.Backing.{NoneWorks}
use Rattle.cores.specs.Laws.{BitAt, EveryWay}
use Rattle.cores.proofs.FirstOnly.{first_truths}

way_number : (way : List Bool) → (number : ℕ) × (number < 2 ^ length way) × (bits number (length way) ≡ way)
way_number [] = (0, rw (pow-zero 2) (omega arith), refl)
way_number (true ∷ way) =
    let (q, h, e) = way_number way in
    let a : (2 * q + 1) % 2 ≡ 1 = omega arith in
    let b : (2 * q + 1) / 2 ≡ q = omega arith in
    (2 * q + 1, rw (pow-suc 2 (length way)) (omega arith), ap₂ ◌∷◌ (eq-eqb _ _ a) (ap (λ n. bits n (length way)) b ∙ e))
way_number (false ∷ way) =
    let (q, h, e) = way_number way in
    let a : (2 * q) % 2 ≡ 0 = omega arith in
    let b : (2 * q) / 2 ≡ q = omega arith in
    (2 * q, rw (pow-suc 2 (length way)) (omega arith), ap₂ ◌∷◌ (ne_eqb ((2 * q) % 2) 1 (λ z. omega arith)) (ap (λ n. bits n (length way)) b ∙ e))

bits_front : (number n m : ℕ) → n ≤ m → take n (bits number m) ≡ bits number n
bits_front number zero m h = refl
bits_front number (suc n) zero h = absurd (omega arith)
bits_front number (suc n) (suc m) h = ap (λ t. eqb (number % 2) 1 ∷ t) (bits_front (number / 2) n m (omega arith))

pub bit_at : BitAt
bit_at number zero i h = absurd (omega arith)
bit_at number (suc n) zero h = ap (λ k. eqb (k % 2) 1) (sym (ap (λ d. number / d) (pow-zero 2) ∙ div-one number))
bit_at number (suc n) (suc i) h = bit_at (number / 2) n i (omega arith) ∙ ap (λ k. eqb (k % 2) 1) (div-div-eq-div-mul number 2 (2 ^ i) ∙ ap (λ d. number / d) (sym (pow-succ' 2 i)))

-- what is said behind the leaves counts for nothing
ins_front : (leaves : List (Option ℕ)) (way : List Bool) → ins_of leaves (take (length leaves) way) ≡ ins_of leaves way
ins_front [] way = refl
ins_front (leaf ∷ leaves) [] = refl
ins_front (leaf ∷ leaves) (says ∷ way) = ap (λ t. place_if says leaf ++ t) (ins_front leaves way)

outs_front : (leaves : List (Option ℕ)) (way : List Bool) → outs_of leaves (take (length leaves) way) ≡ outs_of leaves way
outs_front [] way = refl
outs_front (leaf ∷ leaves) [] = refl
outs_front (leaf ∷ leaves) (says ∷ way) = ap (λ t. place_if (not says) leaf ++ t) (outs_front leaves way)

possible_front : (leaves : List (Option ℕ)) (way : List Bool) → possible leaves (take (length leaves) way) ≡ possible leaves way
possible_front [] way = refl
possible_front (leaf ∷ leaves) [] = refl
possible_front (leaf ∷ leaves) (says ∷ way) = ap (λ t. may_be says leaf && t) (possible_front leaves way)

pub every_way : EveryWay
every_way C plan columns leaves long n room each way same loses may =
    let (number, h, e) = way_number way in
    let full : List Bool = bits number n in
    let front : take (length leaves) full ≡ way = bits_front number (length leaves) n room ∙ ap (bits number) (sym same) ∙ e in
    let itself : take (length leaves) way ≡ way = take_all (length leaves) way (omega (arith, same)) in
    let alike : take (length (named_rows plan columns)) full ≡ take (length (named_rows plan columns)) way = subst (λ k. take k full ≡ take k way) long (front ∙ sym itself) in
    let ins : ins_of leaves full ≡ ins_of leaves way = sym (ins_front leaves full) ∙ ap (ins_of leaves) front in
    let outs : outs_of leaves full ≡ outs_of leaves way = sym (outs_front leaves full) ∙ ap (outs_of leaves) front in
    let none : NoneWorks C (ins_of leaves full) (outs_of leaves full) =
    each number (subst (λ k. number < 2 ^ k) same h) (ap not (first_truths plan columns full way alike) ∙ loses) (sym (possible_front leaves full) ∙ ap (possible leaves) front ∙ may) in
    subst (λ xs. NoneWorks C xs (outs_of leaves way)) ins (subst (λ xs. NoneWorks C (ins_of leaves full) xs) outs none)
