-- Where a clear set cannot be added to, each row out of it has a conflict whose other rows are in it.
use Rattle.std.proofs.Common.{◌≡◌, ℕ, zero, suc, Bool, true, false, cond, not, List, [], ◌∷◌, length, get_or, Some, None, Option, refl, ap, ◌∙◌, inl, inr, arith}
use mathlib.Core.List.Memᴰ
use mathlib.Core.List.{Memᴰ}
use Rattle.rules.proofs.Ascents.{place_in}
use Rattle.cores.specs.Ways.{place_if, ins_of, outs_of, possible}
use Rattle.cores.specs.Backing.{one_of, clear_places, without, others, backing, Works}
use Rattle.cores.proofs.Sets.{clear_within}
use Rattle.cores.proofs.Chosen.{RealAt, Reals}
use Rattle.cores.proofs.Deciding.{way_in}

-- a conflict of the place o, whose other places are all in R
pub record Pick (C : List (List ℕ)) (R : ℕ → Bool) (o : ℕ) : Type 0 where
  pub at : ℕ
  pub real : RealAt C o at
  pub within : (p : ℕ) → Memᴰ p (without o (get_or C at [])) → R p ≡ true

-- one for each place that is out
record Picks (C : List (List ℕ)) (R : ℕ → Bool) (outs : List ℕ) : Type 0 where
  pub choices : List ℕ
  pub long : length choices ≡ length outs
  pub real : Reals C (λ k. get_or outs k 0) choices
  pub within : (p : ℕ) → Memᴰ p (others C outs choices) → R p ≡ true

module _ (C : List (List ℕ)) (R : ℕ → Bool) where
  first_real : (o : ℕ) (outs : List ℕ) (pick : Pick C R o) (rest : Picks C R outs) → Reals C (λ k. get_or (o ∷ outs) k 0) (pick.at ∷ rest.choices)
  first_real o outs pick rest zero h = pick.real
  first_real o outs pick rest (suc k) h = rest.real k (omega arith)

  picks : (outs : List ℕ) → ((o : ℕ) → Memᴰ o outs → Pick C R o) → Picks C R outs
  picks [] each = record { choices = []; long = refl; real = λ k h. absurd (omega arith); within = λ p m. elim m [ ] }
  picks (o ∷ outs) each =
      let pick : Pick C R o = each o (Memᴰ.head refl) in
      let rest : Picks C R outs = picks outs (λ x m. each x (Memᴰ.tail m)) in
      record {
        choices = pick.at ∷ rest.choices;
        long = ap suc rest.long;
        real = first_real o outs pick rest;
        within = λ p m. elim (Memᴰ.append_cases (without o (get_or C pick.at [])) m) [ inl n ↦ pick.within p n | inr n ↦ rest.within p n ];
      }

pub possible_in : (R : ℕ → Bool) (leaves : List (Option ℕ)) → possible leaves (way_in R leaves) ≡ true
possible_in R [] = refl
possible_in R (None ∷ leaves) = possible_in R leaves
possible_in R (Some p ∷ leaves) = possible_in R leaves

module _ (R : ℕ → Bool) where
  placed : (asked : Bool) (q p : ℕ) → Memᴰ p (cond asked (q ∷ []) []) → (asked ≡ true) × (p ≡ q)
  placed true q p (Memᴰ.head e) = (refl, e)
  placed true q p (Memᴰ.tail m) = elim m [ ]
  placed false q p m = elim m [ ]

  ins_in : (leaves : List (Option ℕ)) (p : ℕ) → Memᴰ p (ins_of leaves (way_in R leaves)) → R p ≡ true
  ins_in [] p m = elim m [ ]
  ins_in (None ∷ leaves) p m = ins_in leaves p m
  ins_in (Some q ∷ leaves) p m = elim (Memᴰ.append_cases (place_if (R q) (Some q)) m) [ inl n ↦ let (a, e) = placed (R q) q p n in ap R e ∙ a | inr n ↦ ins_in leaves p n ]

  pub outs_in : (leaves : List (Option ℕ)) (p : ℕ) → Memᴰ p (outs_of leaves (way_in R leaves)) → (not (R p) ≡ true) × Memᴰ (Some p) leaves
  outs_in [] p m = elim m [ ]
  outs_in (None ∷ leaves) p m = let (a, b) = outs_in leaves p m in (a, Memᴰ.tail b)
  outs_in (Some q ∷ leaves) p m = elim (Memᴰ.append_cases (place_if (not (R q)) (Some q)) m) [
    | inl n ↦ let (a, e) = placed (not (R q)) q p n in (ap (λ x. not (R x)) e ∙ a, Memᴰ.head (ap Some e))
    | inr n ↦ let (a, b) = outs_in leaves p n in (a, Memᴰ.tail b)
  ]

-- so for the way that the set itself says, some choices work
pub works_in : (C : List (List ℕ)) (R : ℕ → Bool) → clear_places C R ≡ true → (leaves : List (Option ℕ)) → ((o : ℕ) → Memᴰ o (outs_of leaves (way_in R leaves)) → Pick C R o) →
    (choices : List ℕ) × Works C (ins_of leaves (way_in R leaves)) (outs_of leaves (way_in R leaves)) choices
works_in C R clear leaves each =
    let ins : List ℕ = ins_of leaves (way_in R leaves) in
    let outs : List ℕ = outs_of leaves (way_in R leaves) in
    let found : Picks C R outs = picks C R outs each in (
      found.choices,
      record {
        long = found.long;
        real = found.real;
        stands = clear_within C (one_of (backing C ins outs found.choices)) R
            (λ p h. elim (Memᴰ.append_cases ins (place_in p (backing C ins outs found.choices) h)) [ inl n ↦ ins_in R leaves p n | inr n ↦ found.within p n ]) clear;
      },
    )
