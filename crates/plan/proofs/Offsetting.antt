-- The offsets, from the last node down.
use Rattle.std.proofs.Common.{◌≡◌, ℕ, ◌+◌, ◌-◌, ◌<◌, ◌≤◌, true, false, cond, eqb, List, length, get_or, take, set, sum_by, sym, refl, ap, ◌∙◌, subst, inl, inr, arith, length-set, length-take-le, get_or-set_other, get_or-take, get_or-set_same}
use Rattle.std.proofs.lemmas.List.Sums.{sum_by_more, sum_by-take-le, get_or-le-sum_by}
use Rattle.std.proofs.lemmas.Bool.{eq-eqb, ne_eqb, eqb-true, leb-false, and_parts, and_from, not-false, cases_lt, cases_eq}
use Rattle.plan.specs.Answers.{width_by}
use Rattle.plan.specs.Filling.{Earlier, alike, stray_at}
use Rattle.plan.specs.Nodes.{blank, late, namings}
use Rattle.plan.specs.Parts.{Measured, right_start, passes, Roomy}
use Rattle.store.specs.declared.comparison.Comparison.{Comparison}
use Rattle.plan.specs.declared.node.Field.{Field}
use Rattle.plan.specs.declared.node.Op.{Op}
use Rattle.plan.specs.declared.node.Op.TheVariants.{Product, Union, Difference}
use Rattle.plan.specs.declared.node.Node.{Node}
use Rattle.plan.specs.declared.node.Node.TheVariants.{Leaf, Choice, Pair}
use Rattle.plan.proofs.Grown.{pair_early}
use Rattle.plan.proofs.Measures.{choice_fits, pair_fits}

hit : (n c : ℕ) → n ≡ c → ◌≡◌ {A = ℕ} (cond (eqb n c) 1 0) 1
hit n c e = ap (λ b. cond b 1 0) (eq-eqb n c e)

miss : (n c : ℕ) → (n ≡ c → ⊥) → ◌≡◌ {A = ℕ} (cond (eqb n c) 1 0) 0
miss n c e = ap (λ b. cond b 1 0) (ne_eqb n c e)

-- a node names none from its own place on
unnamed : (k : ℕ) (n : Node) → late k n ≡ false → (c : ℕ) → k ≤ c → namings c n ≡ 0
unnamed k (Leaf relation arity fields) f c h = refl
unnamed k (Choice node comparison) f c h = miss node c (λ e. let l : node < k = leb-false k node f in omega arith)
unnamed k (Pair op left right) f c h = let (i, j) = pair_early k left right f in omega (arith, miss left c (λ e. omega arith), miss right c (λ e. omega arith))

-- the test `passes`, as equations
abbrev pub Passes : List ℕ → List ℕ → ℕ → Node → Type 0
Passes ws os o (Leaf relation arity fields) = Unit {0}
Passes ws os o (Choice node comparison) = get_or os node 0 ≡ o
Passes ws os o (Pair op left right) = (get_or os left 0 ≡ o) × (get_or os right 0 ≡ right_start op o (get_or ws left 0))

pub passes_to : (ws os : List ℕ) (o : ℕ) (n : Node) → passes ws os o n ≡ true → Passes ws os o n
passes_to ws os o (Leaf relation arity fields) h = tt
passes_to ws os o (Choice node comparison) h = eqb-true (get_or os node 0) o h
passes_to ws os o (Pair op left right) h =
    let (a, b) = and_parts (eqb (get_or os left 0) o) (eqb (get_or os right 0) (right_start op o (get_or ws left 0))) h in
    (eqb-true (get_or os left 0) o a, eqb-true (get_or os right 0) (right_start op o (get_or ws left 0)) b)

pub passes_from : (ws os : List ℕ) (o : ℕ) (n : Node) → Passes ws os o n → passes ws os o n ≡ true
passes_from ws os o (Leaf relation arity fields) h = refl
passes_from ws os o (Choice node comparison) h = eq-eqb (get_or os node 0) o h
passes_from ws os o (Pair op left right) (a, b) =
    and_from (eqb (get_or os left 0) o) (eqb (get_or os right 0) (right_start op o (get_or ws left 0))) (eq-eqb (get_or os left 0) o a) (eq-eqb (get_or os right 0) (right_start op o (get_or ws left 0)) b)

-- whether a node passes its offset on is about the nodes that it names alone
passes_kept : (ws os ps : List ℕ) (o : ℕ) (n : Node) → ((c : ℕ) → 0 < namings c n → get_or ps c 0 ≡ get_or os c 0) → Passes ws os o n → Passes ws ps o n
passes_kept ws os ps o (Leaf relation arity fields) h p = tt
passes_kept ws os ps o (Choice node comparison) h p = h node (omega (arith, hit node node refl)) ∙ p
passes_kept ws os ps o (Pair op left right) h (p, q) = (h left (omega (arith, hit left left refl)) ∙ p, h right (omega (arith, hit right right refl)) ∙ q)

two_of : {A : Type 0} (f : A → ℕ) (xs : List A) (k j : ℕ) (d : A) → k < j → j < length xs → f (get_or xs k d) + f (get_or xs j d) ≤ sum_by f xs
two_of f xs k j d h l =
    let a : f (get_or (take j xs) k d) ≤ sum_by f (take j xs) = get_or-le-sum_by f (take j xs) k d (let e : length (take j xs) ≡ j = length-take-le j xs (omega arith) in omega arith) in
    let b : f (get_or (take j xs) k d) ≡ f (get_or xs k d) = ap f (get_or-take j xs k d h) in
    omega (arith, sum_by_more f xs j d l, sum_by-take-le f xs (j + 1))

-- both lines of a pair end where the pair's does, or before
pair_room : (op : Op) (o left right : ℕ) → alike op left right ≡ true → o + width_by op left right ≤ 8 → (o + left ≤ 8) × (right_start op o left + right ≤ 8)
pair_room Product o left right e h = (omega arith, omega arith)
pair_room Union o left right e h = let s = eqb-true left right e in (h, omega arith)
pair_room Difference o left right e h = let s = eqb-true left right e in (h, omega arith)

-- from k on, each node has passed its offset on
abbrev pub Inv : List Node → List ℕ → ℕ → List ℕ → Type 0
Inv nodes ws k os =
    ((j : ℕ) → k ≤ j → j < length nodes → Passes ws os (get_or os j 0) (get_or nodes j blank)) × Roomy (length nodes) ws os × (get_or os (length nodes - 1) 0 ≡ 0) × (length os ≡ length nodes)

module _ (nodes : List Node) (early : Earlier nodes) (once : (c : ℕ) → c < length nodes - 1 → stray_at nodes c ≡ false) (ws : List ℕ) (wide : Measured nodes (length nodes) ws) where
  one_time : (c : ℕ) → c < length nodes - 1 → sum_by (namings c) nodes ≡ 1
  one_time c h = eqb-true (sum_by (namings c) nodes) 1 (not-false (eqb (sum_by (namings c) nodes) 1) (once c h))

  -- the node at k passes its offset on, and leaves what others have passed on
  stepped : (k : ℕ) → k < length nodes → (os ps : List ℕ) → ((c : ℕ) → namings c (get_or nodes k blank) ≡ 0 → get_or ps c 0 ≡ get_or os c 0) →
      Passes ws ps (get_or os k 0) (get_or nodes k blank) → Roomy (length nodes) ws ps → length ps ≡ length nodes → Inv nodes ws (k + 1) os → Inv nodes ws k ps
  stepped k h os ps agree here room long (done, _, zero-last, _) = (all, room, agree (length nodes - 1) (off (length nodes - 1) (omega arith)) ∙ zero-last, long)
    where
      off : (c : ℕ) → k ≤ c → namings c (get_or nodes k blank) ≡ 0
      off = unnamed k (get_or nodes k blank) (early k h)

      above : (j : ℕ) → k < j → j < length nodes → Passes ws ps (get_or ps j 0) (get_or nodes j blank)
      above j l i =
          let apart : (c : ℕ) → 0 < namings c (get_or nodes j blank) → get_or ps c 0 ≡ get_or os c 0 = λ c p.
          elim (cases_lt c j) [
            | inl q ↦ agree c (let s = two_of (namings c) nodes k j blank l i in let t = one_time c (omega arith) in omega arith)
            | inr q ↦ absurd (let z = unnamed j (get_or nodes j blank) (early j i) c q in omega arith)
          ] in
          subst (λ o. Passes ws ps o (get_or nodes j blank)) (sym (agree j (off j (omega arith)))) (passes_kept ws os ps (get_or os j 0) (get_or nodes j blank) apart (done j (omega arith) i))

      all : (j : ℕ) → k ≤ j → j < length nodes → Passes ws ps (get_or ps j 0) (get_or nodes j blank)
      all j l i = elim (cases_lt k j) [
        | inl q ↦ above j q i
        | inr q ↦
            let e : k ≡ j = omega arith in
            subst (λ m. Passes ws ps (get_or ps m 0) (get_or nodes m blank)) e (subst (λ o. Passes ws ps o (get_or nodes k blank)) (sym (agree k (off k (omega arith)))) here)
      ]

  set_at : (os : List ℕ) (m v c : ℕ) → m < length os → (c ≡ m → get_or (set os m v) c 0 ≡ v) × ((c ≡ m → ⊥) → get_or (set os m v) c 0 ≡ get_or os c 0)
  set_at os m v c h = ((λ e. ap (λ i. get_or (set os m v) i 0) e ∙ get_or-set_same os m v 0 h), (λ n. get_or-set_other os m c v 0 n))

  roomy : (os : List ℕ) (m v : ℕ) → m < length os → Roomy (length nodes) ws os → v + get_or ws m 0 ≤ 8 → Roomy (length nodes) ws (set os m v)
  roomy os m v h room here j i = elim (cases_eq j m) [
    | inl e ↦ let x = (set_at os m v j h).0 e in let y : get_or ws j 0 ≡ get_or ws m 0 = ap (λ z. get_or ws z 0) e in omega arith
    | inr n ↦ let x = (set_at os m v j h).1 n in let y = room j i in omega arith
  ]

  module _ (k : ℕ) (within : k < length nodes) (os : List ℕ) (inv : Inv nodes ws (k + 1) os) where
    pub leaf_step : (relation arity : ℕ) (fields : List Field) → get_or nodes k blank ≡ Leaf relation arity fields → Inv nodes ws k os
    leaf_step relation arity fields e = stepped k within os os (λ c _. refl) (subst (Passes ws os (get_or os k 0)) (sym e) tt) inv.1 inv.3 inv

    pub choice_step : (m : ℕ) (comparison : Comparison ℕ) → get_or nodes k blank ≡ Choice m comparison → Inv nodes ws k (set os m (get_or os k 0))
    choice_step m comparison e =
        let o : ℕ = get_or os k 0 in
        let (l, same, _) = choice_fits nodes early ws wide k within m comparison e in
        let fits : m < length os = omega (arith, inv.3) in
        let room : o + get_or ws k 0 ≤ 8 = inv.1 k within in
        stepped k within os (set os m o)
        (λ c z. (set_at os m o c fits).1 (λ q. let y = hit m c (sym q) in let x = ap (namings c) e in omega arith))
        (subst (Passes ws (set os m o) o) (sym e) ((set_at os m o m fits).0 refl))
        (roomy os m o fits inv.1 (omega arith)) (length-set os m o ∙ inv.3) inv

    pub pair_step : (op : Op) (left right : ℕ) → get_or nodes k blank ≡ Pair op left right →
        (get_or os k 0 + get_or ws left 0 ≤ 8) × Inv nodes ws k (set (set os left (get_or os k 0)) right (right_start op (get_or os k 0) (get_or ws left 0)))
    pair_step op l r e =
        let o : ℕ = get_or os k 0 in
        let v : ℕ = right_start op o (get_or ws l 0) in
        let (i, j, sum, like) = pair_fits nodes early ws wide k within op l r e in
        let (a, b) = pair_room op o (get_or ws l 0) (get_or ws r 0) like (let z : o + get_or ws k 0 ≤ 8 = inv.1 k within in omega arith) in
        let ps : List ℕ = set os l o in
        let qs : List ℕ = set ps r v in
        let fl : l < length os = omega (arith, inv.3) in
        let lp : length ps ≡ length os = length-set os l o in
        let fr : r < length ps = omega (arith, inv.3) in
        let named : (c : ℕ) → namings c (get_or nodes k blank) ≡ cond (eqb l c) 1 0 + cond (eqb r c) 1 0 = λ c. ap (namings c) e in
        let differ : l ≡ r → ⊥ = λ q.
        let x = named l in let y = hit l l refl in let z = hit r l (sym q) in let once-l = one_time l (omega arith) in let s = get_or-le-sum_by (namings l) nodes k blank within in omega arith in (
          a,
          stepped k within os qs
              (λ c z. (set_at ps r v c fr).1 (λ q. let y = hit r c (sym q) in let x = named c in omega arith) ∙ (set_at os l o c fl).1 (λ q. let y = hit l c (sym q) in let x = named c in omega arith))
              (subst (Passes ws qs o) (sym e) ((set_at ps r v l fr).1 differ ∙ (set_at os l o l fl).0 refl, (set_at ps r v r fr).0 refl))
              (roomy ps r v fr (roomy os l o fl inv.1 a) b) (length-set ps r v ∙ lp ∙ inv.3) inv,
        )
