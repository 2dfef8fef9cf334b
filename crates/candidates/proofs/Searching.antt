-- The search at a node, from the searches at the nodes that it names.
use Rattle.std.proofs.Common.{◌≡◌, ℕ, ◌+◌, ◌<◌, ◌≤◌, Bool, ◌&&◌, List, [], ◌∷◌, ◌++◌, length, get_or, take, drop, filter, leb, true, false, Some, None, Option, sym, refl, ap, ap₂, ◌∙◌, subst, arith, length-append, length-take-le}
use Rattle.std.proofs.Math.Seq.{take-add}
use Rattle.std.proofs.lemmas.Bool.{eqb-true, and_parts, and_from}
use Rattle.std.proofs.lemmas.List.Elements.{filter-append}
use Rattle.store.specs.declared.row.Row.{Row}
use Rattle.plan.specs.Answers.{chosen, lines_by}
use Rattle.plan.specs.Leaves.{fields_of, leaf_lines}
use Rattle.plan.specs.Nodes.{grown, blank}
use Rattle.plan.specs.Filling.{inside}
use Rattle.plan.specs.Plans.{nodes_of, widths_of, starts_of}
use Rattle.store.specs.Lists.{all}
use Rattle.store.specs.Sides.{all_columns}
use Rattle.std.specs.Range.Bound.{bound_map}
use Rattle.candidates.specs.Seeking.{line_of, Padded, Least, lesser, on_left, on_right, FindsBy, Finds}
use Rattle.candidates.specs.Wanting.{meets, passes, shifted}
use Rattle.candidates.specs.declared.wanted.Wanted.{Wanted}
use Rattle.candidates.specs.Candidates.{before, candidates_of, candidates_at}
use Rattle.plan.specs.declared.node.Field.{Field}
use Rattle.store.specs.declared.comparison.Comparison.{Comparison}
use Rattle.plan.specs.declared.node.Op.TheVariants.{Product, Union, Difference}
use Rattle.plan.specs.declared.node.Node.{Node}
use Rattle.plan.specs.declared.node.Node.TheVariants.{Leaf, Choice, Pair}
use Rattle.plan.specs.declared.plan.Plan.{Plan}
use Rattle.std.specs.declared.ops.Bound.{Bound}
use Rattle.std.specs.declared.ops.Bound.TheVariants.{Included, Excluded, Unbounded}
use Rattle.candidates.proofs.Candidates.{candidates_at_lem, long_candidates}
use Rattle.plan.proofs.Having.{Long}
use Rattle.candidates.proofs.Least.{least_append, least_same}
use Rattle.candidates.proofs.Meeting.{passes_parts, passes_left, passes_alone, passes_also}
use Rattle.plan.proofs.Members.{kept_put, kept_pick}
use mathlib.Core.List.{Memᴰ}
use Rattle.plan.proofs.PlanNodes.{choice_in, pair_in, passes_at, step_node, steps_long}
use Rattle.plan.specs.declared.step.Step.{Step}
use Rattle.ordered.specs.Lists.{items_in}
use Rattle.candidates.proofs.Products.{with_line, Pairing, pairing_start, pairing_end, none_alone, pairing_on, pairing_found}

-- ---- a start and its line
own : (w : ℕ) (start : Bound (List ℕ)) → bound_map (take w) start ≡ with_line start (take w (line_of start))
own w Unbounded = refl
own w (Included at) = refl
own w (Excluded at) = refl

own_left : (w : ℕ) (start : Bound (List ℕ)) → bound_map (take w) (on_left start) ≡ with_line (on_left start) (take w (line_of start))
own_left w Unbounded = refl
own_left w (Included at) = refl
own_left w (Excluded at) = refl

own_right : (cut w : ℕ) (start : Bound (List ℕ)) (past : Bool) → on_right (bound_map (λ at. take w (drop cut at)) start) past ≡ with_line (on_right start past) (take w (drop cut (line_of start)))
own_right cut w Unbounded true = refl
own_right cut w Unbounded false = refl
own_right cut w (Included at) true = refl
own_right cut w (Included at) false = refl
own_right cut w (Excluded at) true = refl
own_right cut w (Excluded at) false = refl

-- a loop over the left lines of a product, which passes by none behind which a line goes on that is sought
abbrev pub Pairs : List Row → Plan → ℕ → ℕ → List (Comparison ℕ) → List ℕ → Bound (List ℕ) → Option (List ℕ) → Type 0
Pairs rows plan l r comparisons known start =
    Pairing (candidates_at rows (nodes_of plan) l) (candidates_at rows (nodes_of plan) r) (get_or (widths_of plan) l 0) (take (get_or (widths_of plan) l 0) (line_of start))
    (take (get_or (widths_of plan) r 0) (drop (get_or (widths_of plan) l 0) (line_of start))) start (passes comparisons known) (passes comparisons known)

module _ (plan : Plan) (rows : List Row) where
  abbrev Cands : ℕ → List (List ℕ)
  Cands k = candidates_at rows (nodes_of plan) k

  abbrev Wide : ℕ → ℕ
  Wide k = get_or (widths_of plan) k 0

  abbrev At : ℕ → ℕ
  At k = get_or (starts_of plan) k 0

  -- nothing is wanted
  pub unwanted : (k : ℕ) (wanted : Wanted) → items_in wanted.comparisons ≡ [] → (start : Bound (List ℕ)) (o : Option (List ℕ)) → Finds rows plan k wanted start o → Least (Cands k) (bound_map (take (Wide k)) start) (Wide k) o
  unwanted k wanted none start o f =
      let known : List ℕ = take (At k) wanted.known in
      least_same (bound_map (take (Wide k)) start) (Wide k) (filter (passes (items_in wanted.comparisons) known) (Cands k)) (Cands k) (λ t m. (kept_pick (passes (items_in wanted.comparisons) known) (Cands k) m).0)
      (λ t m. kept_put (passes (items_in wanted.comparisons) known) m (ap (all (meets (known ++ t))) none)) o f

  module _ (k : ℕ) (h : k < length (nodes_of plan)) (start : Bound (List ℕ)) where
    are : (n : Node) → get_or (nodes_of plan) k blank ≡ n → Cands k ≡ candidates_of rows (grown (candidates_of rows) [] (nodes_of plan)) n
    are n e = candidates_at_lem plan rows k h ∙ ap (candidates_of rows (grown (candidates_of rows) [] (nodes_of plan))) e

    module _ (comparisons : List (Comparison ℕ)) (known : List ℕ) where
      -- by the candidates and the width of the node
      moved : (cs : List (List ℕ)) (w : ℕ) → Cands k ≡ cs → Wide k ≡ w → (r : Option (List ℕ)) → Least (filter (passes comparisons known) cs) (bound_map (take w) start) w r → FindsBy rows plan k comparisons known start r
      moved cs w e f r l = subst (λ n. Least (filter (passes comparisons known) (Cands k)) (bound_map (take n) start) n r) (sym f) (subst (λ ts. Least (filter (passes comparisons known) ts) (bound_map (take w) start) w r) (sym e) l)

    module _ (wanted : Wanted) where
      abbrev Comparisons : List (Comparison ℕ)
      Comparisons = items_in wanted.comparisons

      abbrev Known : List ℕ
      Known = take (At k) wanted.known

      abbrev Passes : List ℕ → Bool
      Passes = passes Comparisons Known

      known_long : length Known ≡ At k
      known_long = length-take-le (At k) wanted.known (omega (arith, plan.room k h, wanted.sized))

      pub leaf_finds : (relation arity : ℕ) (fields : List Field) → get_or (nodes_of plan) k blank ≡ Leaf relation arity fields → (r : Option (List ℕ)) →
          Least (filter Passes (leaf_lines relation (fields_of arity fields) rows)) (bound_map (take (Wide k)) start) (Wide k) r → Finds rows plan k wanted start r
      leaf_finds relation arity fields e r l = moved Comparisons Known (leaf_lines relation (fields_of arity fields) rows) (Wide k) (are (Leaf relation arity fields) e) refl r l

      -- where the line of a named node begins, the same is known before it
      same_known : (other : Wanted) (m : ℕ) → other.known ≡ wanted.known → At m ≡ At k → take (At m) other.known ≡ Known
      same_known other m e f = ap₂ take f e

      pub choice_finds : (m : ℕ) (comparison : Comparison ℕ) → get_or (nodes_of plan) k blank ≡ Choice m comparison → (more : Wanted) →
          items_in more.comparisons ≡ Comparisons ++ shifted (At k) comparison ∷ [] → more.known ≡ wanted.known → (r : Option (List ℕ)) → Finds rows plan m more start r → Finds rows plan k wanted start r
      choice_finds m comparison e more is known r f =
          let (l, same, fits) = choice_in plan k h m comparison e in
          let both : List (Comparison ℕ) = Comparisons ++ shifted (At k) comparison ∷ [] in
          let test : (t : List ℕ) → Memᴰ t (Cands m) → passes both Known t ≡ (Passes t && chosen comparison t) = λ t n.
          passes_also Comparisons (At k) Known t known_long comparison (subst (λ w. inside w comparison ≡ true) (sym (long_candidates plan rows m (omega arith) t n)) fits) in
          let found : FindsBy rows plan m both Known start r = subst (λ cs. FindsBy rows plan m cs Known start r) is
          (subst (λ p. FindsBy rows plan m (items_in more.comparisons) p start r) (same_known more m known (passes_at plan k h (Choice m comparison) e)) f) in
          moved Comparisons Known (filter (chosen comparison) (Cands m)) (Wide m) (are (Choice m comparison) e) same r
          (least_same (bound_map (take (Wide m)) start) (Wide m) (filter (passes both Known) (Cands m)) (filter Passes (filter (chosen comparison) (Cands m)))
          (λ t i. let (n, good) = kept_pick (passes both Known) (Cands m) i in let (a, b) = and_parts (Passes t) (chosen comparison t) (sym (test t n) ∙ good) in kept_put Passes (kept_put (chosen comparison) n b) a)
          (λ t i. let (j, a) = kept_pick Passes (filter (chosen comparison) (Cands m)) i in let (n, b) = kept_pick (chosen comparison) (Cands m) j in
          kept_put (passes both Known) n (test t n ∙ and_from (Passes t) (chosen comparison t) a b)) r found)

      pub union_finds : (l r : ℕ) → get_or (nodes_of plan) k blank ≡ Pair Union l r → (a b : Option (List ℕ)) → Finds rows plan l wanted start a → Finds rows plan r wanted start b → Finds rows plan k wanted start (lesser (Wide k) a b)
      union_finds l r e a b f g =
          let (i, j, same, like) = pair_in plan k h Union l r e in
          let (at-l, at-r) = passes_at plan k h (Pair Union l r) e in
          let w : Wide r ≡ Wide l = sym (eqb-true (Wide l) (Wide r) like) in
          let left : FindsBy rows plan l Comparisons Known start a = subst (λ p. FindsBy rows plan l Comparisons p start a) (same_known wanted l refl at-l) f in
          let right : FindsBy rows plan r Comparisons Known start b = subst (λ p. FindsBy rows plan r Comparisons p start b) (same_known wanted r refl at-r) g in
          moved Comparisons Known (Cands l ++ Cands r) (Wide l) (are (Pair Union l r) e) same (lesser (Wide k) a b)
          (subst (λ n. Least (filter Passes (Cands l ++ Cands r)) (bound_map (take (Wide l)) start) (Wide l) (lesser n a b)) (sym same)
          (subst (λ ts. Least ts (bound_map (take (Wide l)) start) (Wide l) (lesser (Wide l) a b)) (sym (filter-append Passes (Cands l) (Cands r)))
          (least_append (bound_map (take (Wide l)) start) (Wide l) (filter Passes (Cands l)) (filter Passes (Cands r)) a b left (subst (λ n. Least (filter Passes (Cands r)) (bound_map (take n) start) n b) w right))))

      pub difference_finds : (l r : ℕ) → get_or (nodes_of plan) k blank ≡ Pair Difference l r → (a : Option (List ℕ)) → Finds rows plan l wanted start a → Finds rows plan k wanted start a
      difference_finds l r e a f = moved Comparisons Known (Cands l) (Wide l) (are (Pair Difference l r) e) (pair_in plan k h Difference l r e).2 a
          (subst (λ p. FindsBy rows plan l Comparisons p start a) (same_known wanted l refl (passes_at plan k h (Pair Difference l r) e).0) f)

      module _ (l r : ℕ) (e : get_or (nodes_of plan) k blank ≡ Pair Product l r) (eight : length (line_of start) ≡ 8) where
        abbrev Both : List (List ℕ)
        Both = lines_by Product (Cands l) (Cands r)

        -- the start's line, in two parts
        abbrev First : List ℕ
        First = take (Wide l) (line_of start)

        abbrev Second : List ℕ
        Second = take (Wide r) (drop (Wide l) (line_of start))

        long_left : Long (Wide l) (Cands l)
        long_left = long_candidates plan rows l (omega (arith, (pair_in plan k h Product l r e).0))

        both_wide : Wide k ≡ Wide l + Wide r
        both_wide = (pair_in plan k h Product l r e).2

        both_room : Wide l + Wide r ≤ 8
        both_room = omega (arith, both_wide, (plan.wide k h).2)

        begin : length First ≡ Wide l
        begin = length-take-le (Wide l) (line_of start) (omega (arith, both_room))

        lift : (o : Option (List ℕ)) → Least (filter Passes Both) (with_line start (First ++ Second)) (Wide l + Wide r) o → Finds rows plan k wanted start o
        lift o f = moved Comparisons Known Both (Wide l + Wide r) (are (Pair Product l r) e) both_wide o
            (subst (λ s. Least (filter Passes Both) s (Wide l + Wide r) o) (sym (own (Wide l + Wide r) start ∙ ap (with_line start) (take-add (Wide l) (Wide r) (line_of start)))) f)

        -- the left lines that are sought are those that pass
        left : (s : Bound (List ℕ)) (o : Option (List ℕ)) → Finds rows plan l wanted s o → FindsBy rows plan l Comparisons Known s o
        left s o f = subst (λ p. FindsBy rows plan l Comparisons p s o) (same_known wanted l refl (passes_at plan k h (Pair Product l r) e).0) f

        front : (u v : List ℕ) → Passes (u ++ v) ≡ true → Passes u ≡ true
        front u v good = passes_left Comparisons Known u v good

        abbrev Goes : Option (List ℕ) → Type 0
        Goes = Pairs rows plan l r Comparisons Known start

        pub pairs_start : (o : Option (List ℕ)) → Finds rows plan l wanted (on_left start) o → Goes o
        pairs_start o f = pairing_start (Cands l) (Cands r) (Wide l) (Wide r) long_left First Second begin start Passes Passes front o
            (subst (λ s. Least (filter Passes (Cands l)) s (Wide l) o) (own_left (Wide l) start) (left (on_left start) o f))

        pub pairs_end : Goes None → Finds rows plan k wanted start None
        pairs_end f = lift None (pairing_end (Cands l) (Cands r) (Wide l) (Wide r) long_left First Second begin start Passes Passes front f)

        -- the right side has no line that passes for itself
        pub alone_ends : (alone : Wanted) → items_in alone.comparisons ≡ filter (all_columns (λ column. leb (At k + Wide l) column)) Comparisons → Finds rows plan r alone Unbounded None → Finds rows plan k wanted start None
        alone_ends alone is f =
            let from : ℕ = At k + Wide l in
            let kept : List (Comparison ℕ) = filter (all_columns (λ column. leb from column)) Comparisons in
            let behind : List ℕ = take (At r) alone.known in
            let room : At r + Wide r ≤ 8 = plan.room r (omega (arith, (pair_in plan k h Product l r e).1)) in
            let at : At r ≡ from = (passes_at plan k h (Pair Product l r) e).1 in
            let long : length behind ≡ from = length-take-le (At r) alone.known (omega (arith, alone.sized)) ∙ at in
            lift None (none_alone (Cands l) (Cands r) (Wide l) (Wide r) long_left First Second begin start Passes Passes front (passes kept behind)
            (λ u v lu good. passes_alone Comparisons from (Known ++ u) behind v (length-append Known u ∙ omega (arith, known_long)) long (sym (passes_parts Comparisons Known u v) ∙ good))
            (subst (λ cs. FindsBy rows plan r cs behind Unbounded None) is f))

        module _ (x : List ℕ) (here : Goes (Some x)) (past : Bool) (ep : past ≡ before First (take (Wide l) x))
            (next : Bound (List ℕ)) (en : bound_map (take (Wide r)) next ≡ on_right (bound_map (λ at. take (Wide r) (drop (Wide l) at)) start) past)
            (behind : Wanted) (is : items_in behind.comparisons ≡ Comparisons) (known : take (At k + Wide l) behind.known ≡ Known ++ take (Wide l) x) where
          on : (o : Option (List ℕ)) → Finds rows plan r behind next o → Least (filter (passes Comparisons (Known ++ take (Wide l) x)) (Cands r)) (with_line (on_right start (before First (take (Wide l) x))) Second) (Wide r) o
          on o f = subst (λ s. Least (filter (passes Comparisons (Known ++ take (Wide l) x)) (Cands r)) s (Wide r) o) (en ∙ own_right (Wide l) (Wide r) start past ∙ ap (λ b. with_line (on_right start b) Second) ep)
              (subst (λ cs. FindsBy rows plan r cs (Known ++ take (Wide l) x) next o) is
              (subst (λ p. FindsBy rows plan r (items_in behind.comparisons) p next o) (ap (λ n. take n behind.known) (passes_at plan k h (Pair Product l r) e).1 ∙ known) f))

          pub pairs_on : Finds rows plan r behind next None → (o : Option (List ℕ)) → Finds rows plan l wanted (Excluded x) o → Goes o
          pairs_on none o f = pairing_on (Cands l) (Cands r) (Wide l) (Wide r) long_left First Second begin start Passes Passes front x here (passes Comparisons (Known ++ take (Wide l) x))
              (passes_parts Comparisons Known (take (Wide l) x)) (on None none) o (left (Excluded x) o f)

          pub pairs_found : (y z : List ℕ) → Finds rows plan r behind next (Some y) → take (Wide l + Wide r) z ≡ take (Wide l) x ++ take (Wide r) y → length z ≡ 8 → Padded (Wide l + Wide r) z → Finds rows plan k wanted start (Some z)
          pairs_found y z f parts long pad = lift (Some z)
              (pairing_found (Cands l) (Cands r) (Wide l) (Wide r) long_left First Second begin start Passes Passes front x here (passes Comparisons (Known ++ take (Wide l) x))
              (passes_parts Comparisons Known (take (Wide l) x)) y z (on (Some y) f) parts long pad)

-- what stands at the node k, read of the steps
pub stands : (plan : Plan) (steps : List Step) → steps ≡ items_in plan.steps → (k : ℕ) (d : Step) (n : Node) → k < length (nodes_of plan) → (get_or steps k d).node ≡ n → get_or (nodes_of plan) k blank ≡ n
stands plan steps e k d n h is = sym (step_node plan steps e k d (omega (arith, ap length e, steps_long plan))) ∙ is
