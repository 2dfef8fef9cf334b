-- Choices that are real, when one more is made or one is changed.
use Rattle.std.proofs.Common.{◌≡◌, ℕ, zero, suc, ◌<◌, true, List, [], ◌∷◌, ◌++◌, length, get_or, arith}
use Rattle.cores.specs.Backing.{one_of}
use Rattle.cores.specs.Laws.{PushReal}

module _ (C : List (List ℕ)) where
  -- the choice for the place o
  abbrev pub RealAt : ℕ → ℕ → Type 0
  RealAt o c = (c < length C) × (one_of (get_or C c []) o ≡ true)

  -- the same as Real, for a place with each number
  abbrev pub Reals : (ℕ → ℕ) → List ℕ → Type 0
  Reals outs choices = (k : ℕ) → k < length choices → RealAt (outs k) (get_or choices k 0)

  reals_push : (outs : ℕ → ℕ) (chosen : List ℕ) (c : ℕ) → Reals outs chosen → RealAt (outs (length chosen)) c → Reals outs (chosen ++ c ∷ [])
  reals_push outs [] c real at zero h = at
  reals_push outs [] c real at (suc k) h = absurd (omega arith)
  reals_push outs (d ∷ chosen) c real at zero h = real zero (omega arith)
  reals_push outs (d ∷ chosen) c real at (suc k) h = reals_push (λ i. outs (suc i)) chosen c (λ i l. real (suc i) (omega arith)) at k (omega arith)

  pub reals_change : (outs : ℕ → ℕ) (chosen more : List ℕ) (c x : ℕ) → Reals outs (chosen ++ x ∷ more) → RealAt (outs (length chosen)) c → Reals outs (chosen ++ c ∷ more)
  reals_change outs [] more c x real at zero h = at
  reals_change outs [] more c x real at (suc k) h = real (suc k) (omega arith)
  reals_change outs (d ∷ chosen) more c x real at zero h = real zero (omega arith)
  reals_change outs (d ∷ chosen) more c x real at (suc k) h = reals_change (λ i. outs (suc i)) chosen more c x (λ i l. real (suc i) (omega arith)) at k (omega arith)

  pub reals_here : (outs : ℕ → ℕ) (chosen more : List ℕ) (x : ℕ) → Reals outs (chosen ++ x ∷ more) → RealAt (outs (length chosen)) x
  reals_here outs [] more x real = real zero (omega arith)
  reals_here outs (d ∷ chosen) more x real = reals_here (λ i. outs (suc i)) chosen more x (λ i l. real (suc i) (omega arith))

pub push_real : PushReal
push_real C outs chosen c real inside has = reals_push C (λ k. get_or outs k 0) chosen c real (inside, has)
