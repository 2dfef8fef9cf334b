-- A row that is to be out may come first as well, and what works for all works for three of them.
use Rattle.std.proofs.Common.{◌≡◌, ℕ, zero, suc, ◌<◌, true, List, [], ◌∷◌, length, get_or, refl, subst, append-nil, arith, inl, inr}
use mathlib.Core.List.{Memᴰ}
use mathlib.Core.List.Memᴰ
use Rattle.cores.specs.Backing.{one_of, without, others, backing, NoneWorks}
use Rattle.cores.proofs.Sets.{clear_within, within_lists}

-- what one choice marks is among what all mark
one_marks : (C : List (List ℕ)) (outs cs : List ℕ) (k p : ℕ) → k < length cs → length cs ≡ length outs → Memᴰ p (without (get_or outs k 0) (get_or C (get_or cs k 0) [])) → Memᴰ p (others C outs cs)
one_marks C [] cs k p lt long m = absurd (omega arith)
one_marks C (o ∷ outs) [] k p lt long m = absurd (omega arith)
one_marks C (o ∷ outs) (c ∷ cs) zero p lt long m = Memᴰ.append_left (others C outs cs) m
one_marks C (o ∷ outs) (c ∷ cs) (suc k) p lt long m = Memᴰ.append_right (without o (get_or C c [])) (one_marks C outs cs k p (omega arith) (omega arith) m)

pub turned_stops : (C : List (List ℕ)) (ins outs : List ℕ) (k : ℕ) → k < length outs → NoneWorks C ins (get_or outs k 0 ∷ outs) → NoneWorks C ins outs
turned_stops C ins outs k lt none cs w =
    let o : ℕ = get_or outs k 0 in
    let c : ℕ = get_or cs k 0 in
    let long = w.long in
    let all : List ℕ = backing C ins outs cs in
    let now : List ℕ = backing C ins (o ∷ outs) (c ∷ cs) in
    none (c ∷ cs) (record {
      long = omega arith;
      real = first o c (w.real k (omega arith)) w.real;
      stands = clear_within C (one_of now) (one_of all) (within_lists now all (λ p m. elim (Memᴰ.append_cases ins m) [
        | inl n ↦ Memᴰ.append_left (others C outs cs) n
        | inr n ↦ elim (Memᴰ.append_cases (without o (get_or C c [])) n) [
          | inl i ↦ Memᴰ.append_right ins (one_marks C outs cs k p (omega arith) w.long i)
          | inr i ↦ Memᴰ.append_right ins i
        ]
      ])) w.stands;
    })
  where
    first : (o c : ℕ) → (c < length C) × (one_of (get_or C c []) o ≡ true) → ((j : ℕ) → j < length cs → (get_or cs j 0 < length C) × (one_of (get_or C (get_or cs j 0) []) (get_or outs j 0) ≡ true))
        → (j : ℕ) → j < length (c ∷ cs) → (get_or (c ∷ cs) j 0 < length C) × (one_of (get_or C (get_or (c ∷ cs) j 0) []) (get_or (o ∷ outs) j 0) ≡ true)
    first o c h rest zero lt = h
    first o c h rest (suc j) lt = rest j (omega arith)

-- what works for all works for any three of them
pub three_stop : (C : List (List ℕ)) (ins outs : List ℕ) (i j k : ℕ) → i < length outs → j < length outs → k < length outs
    → NoneWorks C ins (get_or outs i 0 ∷ get_or outs j 0 ∷ get_or outs k 0 ∷ []) → NoneWorks C ins outs
three_stop C ins outs i j k at-i at-j at-k none cs w =
    let long = w.long in
    let three : List ℕ = get_or outs i 0 ∷ get_or outs j 0 ∷ get_or outs k 0 ∷ [] in
    let chosen : List ℕ = get_or cs i 0 ∷ get_or cs j 0 ∷ get_or cs k 0 ∷ [] in
    let now : List ℕ = backing C ins three chosen in
    let all : List ℕ = backing C ins outs cs in
    let marked : (n p : ℕ) → n < length outs → Memᴰ p (without (get_or outs n 0) (get_or C (get_or cs n 0) [])) → Memᴰ p all
    = λ n p inside m. Memᴰ.append_right ins (one_marks C outs cs n p (omega arith) long m) in
    none chosen (record {
      long = refl;
      real = of_three _ _ _ _ _ _ (w.real i (omega arith)) (w.real j (omega arith)) (w.real k (omega arith));
      stands = clear_within C (one_of now) (one_of all) (within_lists now all (λ p m. elim (Memᴰ.append_cases ins m) [
        | inl n ↦ Memᴰ.append_left (others C outs cs) n
        | inr n ↦ elim (Memᴰ.append_cases (without (get_or outs i 0) (get_or C (get_or cs i 0) [])) n) [
          | inl a ↦ marked i p at-i a
          | inr a ↦ elim (Memᴰ.append_cases (without (get_or outs j 0) (get_or C (get_or cs j 0) [])) a) [
            | inl b ↦ marked j p at-j b
            | inr b ↦ marked k p at-k (subst (Memᴰ p) (append-nil (without (get_or outs k 0) (get_or C (get_or cs k 0) []))) b)
          ]
        ]
      ])) w.stands;
    })
  where
    Chosen : ℕ → ℕ → Type 0
    Chosen o c = (c < length C) × (one_of (get_or C c []) o ≡ true)

    of_three : (x y z a b c : ℕ) → Chosen x a → Chosen y b → Chosen z c → (n : ℕ) → n < 3 → Chosen (get_or (x ∷ y ∷ z ∷ []) n 0) (get_or (a ∷ b ∷ c ∷ []) n 0)
    of_three x y z a b c hx hy hz zero lt = hx
    of_three x y z a b c hx hy hz (suc zero) lt = hy
    of_three x y z a b c hx hy hz (suc (suc zero)) lt = hz
    of_three x y z a b c hx hy hz (suc (suc (suc n))) lt = absurd (omega (arith, lt))
