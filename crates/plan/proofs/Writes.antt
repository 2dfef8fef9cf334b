-- An array after one write.
use Rattle.std.proofs.Common.{ℕ, ◌+◌, ◌<◌, ◌≢◌, List, length, get_or, set, sym, ap, ◌∙◌, subst, inl, inr, arith, get_or-set_other, get_or-set_same, below_more}
use Rattle.std.proofs.lemmas.Bool.{cases_eq}

module _ {A : Type 0} (xs : List A) (k : ℕ) (v d : A) (room : k < length xs) where
  -- what holds of every element, and of the new one
  pub every : (P : A → Type 0) → ((j : ℕ) → P (get_or xs j d)) → P v → (j : ℕ) → P (get_or (set xs k v) j d)
  every P old new j = elim (cases_eq j k) [
    | inl e ↦ subst P (sym (ap (λ i. get_or (set xs k v) i d) e ∙ get_or-set_same xs k v d room)) new
    | inr ne ↦ subst P (sym (get_or-set_other xs k j v d ne)) (old j)
  ]

  -- what holds of each element before k, and of the one that is written there
  pub one_more : (P : ℕ → A → Type 0) → ((j : ℕ) → j < k → P j (get_or xs j d)) → P k v → (j : ℕ) → j < k + 1 → P j (get_or (set xs k v) j d)
  one_more P old new = below_more (λ j. P j (get_or (set xs k v) j d)) k
      (λ j h. let ne : j ≢ k = omega arith in subst (P j) (sym (get_or-set_other xs k j v d ne)) (old j h))
      (subst (P k) (sym (get_or-set_same xs k v d room)) new)
