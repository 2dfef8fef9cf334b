-- Arities that were read from bytes read the same again.
use Rattle.std.proofs.Common.{◌≡◌, ℕ, ◌<◌, ◌≤◌, ◌⊎◌, List, get_or, sym, ◌∙◌, ⊎_elim, arith}
use Rattle.std.proofs.lemmas.Bool.Decides.{nat_tests}
use Rattle.store.specs.Rows.{arity_in}

pub arity_far : (bytes : List ℕ) (relation : ℕ) → 16 ≤ relation → arity_in bytes relation ≡ 0
arity_far bytes relation h = grind (arith, nat_tests)

pub arity_read : (bytes : List ℕ) (relation : ℕ) → relation < 16 → get_or bytes relation 0 ≤ 4 → arity_in bytes relation ≡ get_or bytes relation 0
arity_read bytes relation h k = grind (arith, nat_tests)

pub arity_high : (bytes : List ℕ) (relation : ℕ) → 4 < get_or bytes relation 0 → arity_in bytes relation ≡ 0
arity_high bytes relation h = grind (arith, nat_tests)

small : (bytes : List ℕ) (relation : ℕ) → arity_in bytes relation ≤ 4
small bytes relation = grind (arith, nat_tests)

side : (n : ℕ) → (n < 16) ⊎ (16 ≤ n)
side n = grind arith

pub arity_again : (kept bytes : List ℕ) → ((k : ℕ) → k < 16 → get_or kept k 0 ≡ arity_in bytes k) → (relation : ℕ) → arity_in kept relation ≡ arity_in bytes relation
arity_again kept bytes h relation = ⊎_elim
    (λ (near : relation < 16). let e = h relation near in let s = small bytes relation in arity_read kept relation near (omega arith) ∙ e)
    (λ (far : 16 ≤ relation). arity_far kept relation far ∙ sym (arity_far bytes relation far))
    (side relation)
