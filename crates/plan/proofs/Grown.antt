-- Values of nodes, each from those of earlier nodes.
use Rattle.std.proofs.Common.{◌≡◌, ℕ, zero, suc, ◌+◌, ◌<◌, false, ◌||◌, leb, List, [], ◌∷◌, ◌++◌, length, get_or, take, sym, refl, ap, ◌∙◌, subst, append_assoc, append-nil, zero-add, arith, length-append, get_or-take, get_or-append-add}
use lib.Seq.{take-append-add}
use Rattle.std.proofs.lemmas.Bool.{leb-false, or_parts}
use Rattle.plan.specs.Nodes.{grown, blank, late}
use Rattle.plan.specs.Filling.{Earlier}
use Rattle.plan.specs.declared.node.Node.{Node}

-- what a node names is earlier
pub pair_early : (k left right : ℕ) → (leb k left || leb k right) ≡ false → (left < k) × (right < k)
pair_early k left right h = let (a, b) = or_parts (leb k left) (leb k right) h in (leb-false k left a, leb-false k right b)

module _ {A : Type 0} (step : List A → Node → A) where
  front : (done : List A) (ns : List Node) → (r : List A) × (grown step done ns ≡ done ++ r) × (length r ≡ length ns)
  front done [] = ([], sym (append-nil done), refl)
  front done (n ∷ ns) =
      let (r, e, l) = front (done ++ (step done n ∷ [])) ns in
      (step done n ∷ r, e ∙ append_assoc done (step done n ∷ []) r, ap suc l)

  pub length_grown : (ns : List Node) → length (grown step [] ns) ≡ length ns
  length_grown ns = let (r, e, l) = front [] ns in ap length e ∙ l

  grown_from : (done : List A) (ns : List Node) (k : ℕ) (d : A) → k < length ns →
      get_or (grown step done ns) (length done + k) d ≡ step (take (length done + k) (grown step done ns)) (get_or ns k blank)
  grown_from done [] k d h = absurd (omega arith)
  grown_from done (n ∷ ns) zero d h =
      let (s, f, m) = front (done ++ (step done n ∷ [])) ns in
      let e : grown step done (n ∷ ns) ≡ done ++ (step done n ∷ s) = f ∙ append_assoc done (step done n ∷ []) s in
      ap (λ z. get_or z (length done + 0) d) e ∙ get_or-append-add done (step done n ∷ s) 0 d ∙
      ap (λ z. step z n) (sym (ap (take (length done + 0)) e ∙ take-append-add done (step done n ∷ s) 0 ∙ append-nil done))
  grown_from done (n ∷ ns) (suc k) d h =
      let more : List A = done ++ (step done n ∷ []) in
      let i : length more + k ≡ length done + suc k = omega (arith, length-append done (step done n ∷ [])) in
      subst (λ j. get_or (grown step more ns) j d ≡ step (take j (grown step more ns)) (get_or ns k blank)) i (grown_from more ns k d (omega arith))

  -- each value is the step's, from those before it
  pub grown_at : (ns : List Node) (k : ℕ) (d : A) → k < length ns → get_or (grown step [] ns) k d ≡ step (take k (grown step [] ns)) (get_or ns k blank)
  grown_at ns k d h = subst (λ j. get_or (grown step [] ns) j d ≡ step (take j (grown step [] ns)) (get_or ns k blank)) (zero-add k) (grown_from [] ns k d h)

-- the two lists are alike before k
abbrev pub Agree : {A : Type 0} → A → ℕ → List A → List A → Type 0
Agree d k xs ys = (j : ℕ) → j < k → get_or xs j d ≡ get_or ys j d

-- the step looks only at the values of the nodes that a node names
abbrev pub Local : {A B : Type 0} → A → (List A → Node → B) → Type 0
Local {A} d step = (xs ys : List A) (k : ℕ) → Agree d k xs ys → (n : Node) → late k n ≡ false → step xs n ≡ step ys n

-- so each value is the step's from all
pub value_at : {A : Type 0} (d : A) (step : List A → Node → A) → Local d step → (nodes : List Node) → Earlier nodes → (k : ℕ) → k < length nodes →
    get_or (grown step [] nodes) k d ≡ step (grown step [] nodes) (get_or nodes k blank)
value_at d step local nodes early k h =
    let all = grown step [] nodes in
    grown_at step nodes k d h ∙ local (take k all) all k (λ j i. get_or-take k all j d i) (get_or nodes k blank) (early k h)
