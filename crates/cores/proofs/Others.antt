-- What choices mark: the other places of the chosen conflicts.
use Rattle.std.proofs.Common.{◌≡◌, ℕ, zero, suc, ◌<◌, not, eqb, ◌⊎◌, List, [], ◌∷◌, ◌++◌, length, get_or, sym, refl, ap, ◌∙◌, inl, inr, arith, append_assoc, append-nil}
use mathlib.Core.List.Memᴰ
use mathlib.Core.List.{Memᴰ}
use Rattle.std.proofs.lemmas.Bool.{not-true, not_from_false, ne_eqb, eqb-false}
use Rattle.rules.proofs.Members.{kept_put, kept_pick}
use Rattle.cores.specs.Backing.{without, others, backing}
use Rattle.cores.specs.Laws.{PushMarks}

pub without_put : {p : ℕ} {xs : List ℕ} (o : ℕ) → Memᴰ p xs → (p ≡ o → ⊥) → Memᴰ p (without o xs)
without_put {p} o m ne = kept_put (λ x. not (eqb x o)) m (not_from_false (eqb p o) (ne_eqb p o ne))

pub without_pick : {p : ℕ} (o : ℕ) (xs : List ℕ) → Memᴰ p (without o xs) → Memᴰ p xs × (p ≡ o → ⊥)
without_pick {p} o xs m = let (n, k) = kept_pick (λ x. not (eqb x o)) xs m in (n, eqb-false p o (not-true (eqb p o) k))

module _ (C : List (List ℕ)) where
  others_none : (outs : List ℕ) → others C outs [] ≡ []
  others_none [] = refl
  others_none (o ∷ outs) = refl

  others_push : (outs chosen : List ℕ) (c : ℕ) → length chosen < length outs → others C outs (chosen ++ c ∷ []) ≡ others C outs chosen ++ without (get_or outs (length chosen) 0) (get_or C c [])
  others_push [] chosen c h = absurd (omega arith)
  others_push (o ∷ outs) [] c h = ap (λ t. without o (get_or C c []) ++ t) (others_none outs) ∙ append-nil (without o (get_or C c []))
  others_push (o ∷ outs) (d ∷ chosen) c h =
      ap (λ t. without o (get_or C d []) ++ t) (others_push outs chosen c (omega arith)) ∙
      sym (append_assoc (without o (get_or C d [])) (others C outs chosen) (without (get_or outs (length chosen) 0) (get_or C c [])))

  -- what the first choices mark
  pub others_front : (outs chosen more : List ℕ) (p : ℕ) → Memᴰ p (others C outs chosen) → Memᴰ p (others C outs (chosen ++ more))
  others_front [] chosen more p m = elim m [ ]
  others_front (o ∷ outs) [] more p m = elim m [ ]
  others_front (o ∷ outs) (c ∷ chosen) more p m = elim (Memᴰ.append_cases (without o (get_or C c [])) m) [
    | inl n ↦ Memᴰ.append_left (others C outs (chosen ++ more)) n
    | inr n ↦ Memᴰ.append_right (without o (get_or C c [])) (others_front outs chosen more p n)
  ]

  -- what the choice with the number k marks
  pub others_at : (outs choices : List ℕ) (k : ℕ) → k < length choices → k < length outs → (p : ℕ) → Memᴰ p (without (get_or outs k 0) (get_or C (get_or choices k 0) [])) → Memᴰ p (others C outs choices)
  others_at [] choices k h l p m = absurd (omega arith)
  others_at (o ∷ outs) [] k h l p m = absurd (omega arith)
  others_at (o ∷ outs) (c ∷ choices) zero h l p m = Memᴰ.append_left (others C outs choices) m
  others_at (o ∷ outs) (c ∷ choices) (suc k) h l p m = Memᴰ.append_right (without o (get_or C c [])) (others_at outs choices k (omega arith) (omega arith) p m)

  -- what is marked with one choice is marked by it, or with any other in its place
  pub others_cases : (outs chosen more : List ℕ) (c : ℕ) → length chosen < length outs → (p : ℕ) → Memᴰ p (others C outs (chosen ++ c ∷ more)) →
      Memᴰ p (without (get_or outs (length chosen) 0) (get_or C c [])) ⊎ ((x : ℕ) → Memᴰ p (others C outs (chosen ++ x ∷ more)))
  others_cases [] chosen more c h p m = absurd (omega arith)
  others_cases (o ∷ outs) [] more c h p m = elim (Memᴰ.append_cases (without o (get_or C c [])) m) [ inl n ↦ inl n | inr n ↦ inr (λ x. Memᴰ.append_right (without o (get_or C x [])) n) ]
  others_cases (o ∷ outs) (d ∷ chosen) more c h p m = elim (Memᴰ.append_cases (without o (get_or C d [])) m) [
    | inl n ↦ inr (λ x. Memᴰ.append_left (others C outs (chosen ++ x ∷ more)) n)
    | inr n ↦ elim (others_cases outs chosen more c (omega arith) p n) [ inl i ↦ inl i | inr f ↦ inr (λ x. Memᴰ.append_right (without o (get_or C d [])) (f x)) ]
  ]

pub push_marks : PushMarks
push_marks C ins outs chosen c h =
    ap (λ t. ins ++ t) (others_push C outs chosen c h) ∙ sym (append_assoc ins (others C outs chosen) (without (get_or outs (length chosen) 0) (get_or C c [])))

-- what the first choices mark is marked with all
pub backing_front : (C : List (List ℕ)) (ins outs chosen more : List ℕ) (p : ℕ) → Memᴰ p (backing C ins outs chosen) → Memᴰ p (backing C ins outs (chosen ++ more))
backing_front C ins outs chosen more p m = elim (Memᴰ.append_cases ins m) [
  | inl n ↦ Memᴰ.append_left (others C outs (chosen ++ more)) n
  | inr n ↦ Memᴰ.append_right ins (others_front C outs chosen more p n)
]
