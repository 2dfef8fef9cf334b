-- A list that is moved up by one place from a place on, and what is put in there. Assumes nothing.
use Rattle.std.proofs.Common.{◌≡◌, ℕ, zero, suc, ◌+◌, ◌-◌, ◌<◌, ◌≤◌, List, [], ◌∷◌, ◌++◌, length, take, drop, set, sym, refl, ap, ◌∙◌, add-one, arith}
use Rattle.std.specs.List.{insert, copy_within}
use lib.Seq.{take-set-lt}
use Rattle.std.proofs.lemmas.List.{take-take, drop-take, length-drop}
use Rattle.std.proofs.lemmas.List.Edits.{take-paste}

replaced : {X : Type 0} (xs zs : List X) (p : ℕ) (x : X) → p < length xs → set (take (suc p) xs ++ zs) p x ≡ take p xs ++ x ∷ zs
replaced [] zs p x lt = absurd (omega arith)
replaced (y ∷ ys) zs zero x lt = refl
replaced (y ∷ ys) zs (suc p) x lt = ap (λ l. y ∷ l) (replaced ys zs p x (omega arith))

pub inserted : {X : Type 0} (xs : List X) (count p : ℕ) (x : X) → p ≤ count → count < length xs → take (count + 1) (set (copy_within xs p count (p + 1)) p x) ≡ insert (take count xs) p x
inserted xs count p x inside room =
    let n = count - p in
    let end : count + 1 ≡ p + 1 + n = omega arith in
    let whole : p + n ≡ count = omega arith in
    take-set-lt (count + 1) (copy_within xs p count (p + 1)) p x (omega arith)
    ∙ ap (λ k. set (take k (copy_within xs p count (p + 1))) p x) end
    ∙ ap (λ l. set l p x) (take-paste xs (p + 1) (drop p xs) n (omega arith) (omega (arith, length-drop p xs)))
    ∙ rw add-one (replaced xs (take n (drop p xs)) p x (omega arith))
    ∙ (λ i. sym (take-take p count xs inside) i ++ x ∷ (sym (drop-take p n xs) ∙ ap (λ k. drop p (take k xs)) whole) i)
