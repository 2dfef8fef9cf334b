-- A loop that goes through lines, least first, on past those that have nothing to show.
use Rattle.std.proofs.Common.{◌≡◌, ℕ, suc, ◌<◌, ◌≤◌, true, false, cond, List, [], ◌∷◌, length, take, Some, None, Option, sym, refl, ap, subst, inl, inr, arith}
use mathlib.Core.List.{Memᴰ}
use Rattle.std.proofs.lemmas.Bool.{both_ways, not-true, not_from_false, cases_Bool}
use Rattle.store.proofs.Tests.{from_not}
use Rattle.candidates.specs.Seeking.{reaches, Padded, Least}
use Rattle.candidates.specs.Candidates.{before}
use Rattle.std.specs.declared.ops.Bound.{Bound}
use Rattle.std.specs.declared.ops.Bound.TheVariants.{Included, Excluded, Unbounded}
use Rattle.candidates.proofs.Before.{irreflexive, transitive, compared}

-- no line that is good was passed by
abbrev pub Going : List (List ℕ) → (List ℕ → Type 0) → Bound (List ℕ) → ℕ → Option (List ℕ) → Type 0
Going cs Good start w None = (t : List ℕ) → Memᴰ t cs → Good t → reaches start t ≡ false
Going cs Good start w (Some a) = Memᴰ (take w a) cs × (reaches start (take w a) ≡ true) × ((t : List ℕ) → Memᴰ t cs → Good t → reaches start t ≡ true → before t (take w a) ≡ false) × (length a ≡ 8) × Padded w a

-- how many lines are later
abbrev pub later : List ℕ → List (List ℕ) → ℕ
later x [] = 0
later x (t ∷ ts) = cond (before x t) (suc (later x ts)) (later x ts)

abbrev pub remain : List (List ℕ) → ℕ → Option (List ℕ) → ℕ
remain cs w None = 0
remain cs w (Some a) = suc (later (take w a) cs)

reach_on : (start : Bound (List ℕ)) (x y : List ℕ) → reaches start x ≡ true → before x y ≡ true → reaches start y ≡ true
reach_on Unbounded x y h k = refl
reach_on (Included at) x y h k = not_from_false (before y at) (from_not (before y at) (λ b. both_ways (before x at) (not-true (before x at) h) (transitive x y at k b)))
reach_on (Excluded at) x y h k = transitive at x y h k

module _ (cs : List (List ℕ)) (Good : List ℕ → Type 0) (start : Bound (List ℕ)) (w : ℕ) where
  pub going_start : (o : Option (List ℕ)) → Least cs start w o → Going cs Good start w o
  going_start None f = λ t m _. f t m
  going_start (Some a) (i, r, f, l, z) = (i, r, (λ t m _ q. f t m q), l, z)

  -- a good line is not one that is bad, and not before it
  past_it : (a : List ℕ) → Going cs Good start w (Some a) → (Good (take w a) → ⊥) → (t : List ℕ) → Memᴰ t cs → Good t → reaches start t ≡ true → before (take w a) t ≡ true
  past_it a (i, r, f, l, z) bad t m good q = elim (compared (take w a) t) [
    | inl o ↦ o
    | inr o ↦ elim o [
      | inl e ↦ absurd (bad (subst Good (sym e) good))
      | inr o ↦ absurd (both_ways (before t (take w a)) (f t m good q) o)
    ]
  ]

  pub going_on : (a : List ℕ) → Going cs Good start w (Some a) → (Good (take w a) → ⊥) → (o : Option (List ℕ)) → Least cs (Excluded (take w a)) w o → Going cs Good start w o
  going_on a g bad None f = λ t m good. from_not (reaches start t) (λ q. both_ways (before (take w a) t) (f t m) (past_it a g bad t m good q))
  going_on a g bad (Some b) (j, s, f, l, z) = (j, reach_on start (take w a) (take w b) g.1 s, (λ t m good q. f t m (past_it a g bad t m good q)), l, z)

later_le : (x y : List ℕ) → before x y ≡ true → (cs : List (List ℕ)) → later y cs ≤ later x cs
later_le x y h [] = omega arith
later_le x y h (t ∷ cs) = elim (cases_Bool (before y t)) [
  | inl a ↦ let b = transitive x y t h a in let p = ap (λ z. cond z (suc (later y cs)) (later y cs)) a in let q = ap (λ z. cond z (suc (later x cs)) (later x cs)) b in omega (arith, later_le x y h cs)
  | inr a ↦ let p = ap (λ z. cond z (suc (later y cs)) (later y cs)) a in elim (cases_Bool (before x t)) [
    | inl b ↦ let q = ap (λ z. cond z (suc (later x cs)) (later x cs)) b in omega (arith, later_le x y h cs)
    | inr b ↦ let q = ap (λ z. cond z (suc (later x cs)) (later x cs)) b in omega (arith, later_le x y h cs)
  ]
]

pub later_less : (x y : List ℕ) → before x y ≡ true → (cs : List (List ℕ)) → Memᴰ y cs → later y cs < later x cs
later_less x y h cs (Memᴰ.head {x = t} {xs = ts} e) =
    let b : before x t ≡ true = subst (λ u. before x u ≡ true) e h in
    let a : before y t ≡ false = subst (λ u. before y u ≡ false) e (irreflexive y) in
    let p = ap (λ z. cond z (suc (later y ts)) (later y ts)) a in let q = ap (λ z. cond z (suc (later x ts)) (later x ts)) b in omega (arith, later_le x y h ts)
later_less x y h cs (Memᴰ.tail {x = t} {xs = ts} m) = elim (cases_Bool (before y t)) [
  | inl a ↦ let b = transitive x y t h a in let p = ap (λ z. cond z (suc (later y ts)) (later y ts)) a in let q = ap (λ z. cond z (suc (later x ts)) (later x ts)) b in omega (arith, later_less x y h ts m)
  | inr a ↦ let p = ap (λ z. cond z (suc (later y ts)) (later y ts)) a in elim (cases_Bool (before x t)) [
    | inl b ↦ let q = ap (λ z. cond z (suc (later x ts)) (later x ts)) b in omega (arith, later_less x y h ts m)
    | inr b ↦ let q = ap (λ z. cond z (suc (later x ts)) (later x ts)) b in omega (arith, later_less x y h ts m)
  ]
]

pub remain_less : (cs : List (List ℕ)) (w : ℕ) (a : List ℕ) (o : Option (List ℕ)) → Least cs (Excluded (take w a)) w o → remain cs w o < remain cs w (Some a)
remain_less cs w a None f = omega arith
remain_less cs w a (Some b) (j, s, f, l, z) = omega (arith, later_less (take w a) (take w b) s cs j)
