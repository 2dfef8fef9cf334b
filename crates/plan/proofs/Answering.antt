-- Whether a line is an answer is the plan's truth at the rows that it names.
use Rattle.std.proofs.Common.{◌≡◌, ℕ, zero, suc, ◌+◌, ◌-◌, ◌<◌, Bool, true, false, ◌&&◌, eqb, List, [], length, get_or, take, drop, filter, sym, refl, ap, ◌∙◌, subst, ap₂, inl, inr, arith, length-append, get_or-take}
use mathlib.Core.List.Memᴰ
use Rattle.std.proofs.lemmas.List.{get_or-map}
use Rattle.std.proofs.lemmas.Bool.{leb-false, and_parts, eqb-true}
use Rattle.store.specs.Rows.{zero_from}
use Rattle.store.specs.declared.row.Row.{Row}
use Rattle.plan.specs.Answers.{has, among, chosen, width_by, lines_by, lines_of, lines_at, plan_width}
use Rattle.plan.specs.Filling.{alike, leaves_before}
use Rattle.plan.specs.Gathering.{leaves_of}
use Rattle.plan.specs.Laws.{ByNames}
use Rattle.plan.specs.Leaves.{fields_of, named}
use Rattle.plan.specs.Nodes.{grown, blank}
use Rattle.plan.specs.Plans.{nodes_of, widths_of, starts_of}
use Rattle.plan.specs.Truths.{part_at, named_rows, combined, truth_of, truths, line_fits, Tells}
use Rattle.plan.specs.declared.leaf.PlanLeaf.{PlanLeaf}
use Rattle.plan.specs.declared.node.Op.{Op}
use Rattle.plan.specs.declared.node.Op.TheVariants.{Product, Union, Difference}
use Rattle.plan.specs.declared.node.Node.{Node}
use Rattle.plan.specs.declared.node.Node.TheVariants.{Leaf, Choice, Pair}
use Rattle.plan.specs.declared.plan.Plan.{Plan}
use Rattle.plan.proofs.Evaluating.{truth_at_lem}
use Rattle.plan.proofs.Grown.{Local, value_at, pair_early}
use Rattle.plan.proofs.Having.{Long, has_kept, has_by, long_leaf, has_leaf, has_padded}
use Rattle.plan.proofs.Members.{kept_pick, pairs_pick}
use Rattle.plan.proofs.Numbering.{leaf_of}
use Rattle.plan.proofs.PlanLeaves.{leaf_number, named_long}
use Rattle.plan.proofs.PlanNodes.{part_long, leaf_in, choice_in, pair_in, passes_at}

lines_local : (rows : List Row) → Local [] (lines_of rows)
lines_local rows xs ys k same (Leaf relation arity fields) f = refl
lines_local rows xs ys k same (Choice node comparison) f = ap (filter (chosen comparison)) (same node (leb-false k node f))
lines_local rows xs ys k same (Pair op left right) f = let (a, b) = pair_early k left right f in ap₂ (lines_by op) (same left a) (same right b)

pub long_by : (op : Op) (ps qs : List (List ℕ)) (v w : ℕ) → Long v ps → Long w qs → alike op v w ≡ true → Long (width_by op v w) (lines_by op ps qs)
long_by Product ps qs v w f g like t m = let (a, b, i, j, e) = pairs_pick ps qs t m in sym (ap length e) ∙ length-append a b ∙ ap₂ ◌+◌ (f a i) (g b j)
long_by Union ps qs v w f g like t m = elim (Memᴰ.append_cases ps m) [ inl n ↦ f t n | inr n ↦ g t n ∙ sym (eqb-true v w like) ]
long_by Difference ps qs v w f g like t m = f t (kept_pick _ ps m).0

under : (b x y : Bool) → (b ≡ true → x ≡ y) → (b && x) ≡ (b && y)
under true x y h = h refl
under false x y h = refl

module _ (plan : Plan) (rows : List Row) where
  abbrev Lines : ℕ → List (List ℕ)
  Lines k = lines_at rows (nodes_of plan) k

  abbrev Wide : ℕ → ℕ
  Wide k = get_or (widths_of plan) k 0

  pub lines_at_lem : (k : ℕ) → k < length (nodes_of plan) → Lines k ≡ lines_of rows (grown (lines_of rows) [] (nodes_of plan)) (get_or (nodes_of plan) k blank)
  lines_at_lem k h =
      value_at [] (lines_of rows) (lines_local rows) (nodes_of plan) plan.early k h

  -- each line of a node is as long as the node is wide
  long_node : (k : ℕ) → k < length (nodes_of plan) → ((j : ℕ) → j < k → Long (Wide j) (Lines j)) → (n : Node) → get_or (nodes_of plan) k blank ≡ n → Long (Wide k) (lines_of rows (grown (lines_of rows) [] (nodes_of plan)) n)
  long_node k h ih (Leaf relation arity fields) e t m = long_leaf relation (fields_of arity fields) rows t m ∙ sym (leaf_in plan k h relation arity fields e)
  long_node k h ih (Choice node comparison) e t m = let (l, same, _) = choice_in plan k h node comparison e in ih node l t (kept_pick _ (Lines node) m).0 ∙ sym same
  long_node k h ih (Pair op left right) e t m =
      let (i, j, sum, like) = pair_in plan k h op left right e in
      long_by op (Lines left) (Lines right) (Wide left) (Wide right) (ih left i) (ih right j) like t m ∙ sym sum

  long_below : (m k : ℕ) → k < m → k < length (nodes_of plan) → Long (Wide k) (Lines k)
  long_below zero k l h = absurd (omega arith)
  long_below (suc m) k l h = subst (Long (Wide k)) (sym (lines_at_lem k h)) (long_node k h (λ j i. long_below m j (omega arith) (omega arith)) (get_or (nodes_of plan) k blank) refl)

  pub long_lines : (k : ℕ) → k < length (nodes_of plan) → Long (Wide k) (Lines k)
  long_lines k h = long_below (suc k) k (omega arith) h

  module _ (columns : List ℕ) (eight : length columns ≡ 8) (truth : List Bool) (tells : Tells plan columns rows truth) where
    abbrev Truths : List Bool
    Truths = truths plan columns truth

    abbrev Part : ℕ → List ℕ
    Part k = part_at plan columns k

    -- a node's truth tells whether its part of the line is one of its lines
    abbrev Claim : ℕ → Type 0
    Claim k = has (Lines k) (Part k) ≡ get_or Truths k false

    -- the truth that is told of the row that the line names at a leaf
    told : (k : ℕ) → k < length (nodes_of plan) → (relation arity : ℕ) (fields : List _) → get_or (nodes_of plan) k blank ≡ Leaf relation arity fields →
        among rows (named relation (fields_of arity fields) (Part k)) ≡ get_or truth (leaves_before (nodes_of plan) k) false
    told k h relation arity fields e =
        let i : ℕ = leaves_before (nodes_of plan) k in
        let leaves : List PlanLeaf = leaves_of (nodes_of plan) in
        let row_of : PlanLeaf → Row = λ leaf. named leaf.relation leaf.fields (Part leaf.node) in
        let (few, is) = leaf_number plan k h relation arity fields e in
        let n : i < length (named_rows plan columns) = omega (arith, named_long plan columns) in
        let d : PlanLeaf = leaf_of 0 blank in
        ap (λ leaf. among rows (row_of leaf)) (sym (is d)) ∙ ap (among rows) (sym (get_or-map row_of leaves i d (row_of d) few)) ∙ sym (get_or-map (among rows) (named_rows plan columns) i (row_of d) false n) ∙
        ap (λ bs. get_or bs i false) (sym tells) ∙ get_or-take (length (named_rows plan columns)) truth i false n

    claim_node : (k : ℕ) → k < length (nodes_of plan) → ((j : ℕ) → j < k → Claim j) → (n : Node) → get_or (nodes_of plan) k blank ≡ n →
        has (lines_of rows (grown (lines_of rows) [] (nodes_of plan)) n) (Part k) ≡ truth_of (get_or truth (leaves_before (nodes_of plan) k) false) (Part k) Truths n
    claim_node k h ih (Leaf relation arity fields) e =
        has_leaf relation (fields_of arity fields) rows (Part k) (part_long plan k h columns eight ∙ leaf_in plan k h relation arity fields e) ∙ told k h relation arity fields e
    claim_node k h ih (Choice node comparison) e =
        let (l, same, _) = choice_in plan k h node comparison e in
        let starts : get_or (starts_of plan) node 0 ≡ get_or (starts_of plan) k 0 = passes_at plan k h (Choice node comparison) e in
        let part : Part k ≡ Part node = ap₂ (λ w o. take w (drop o columns)) same (sym starts) in
        has_kept (chosen comparison) (Lines node) (Part k) ∙ ap (λ b. b && chosen comparison (Part k)) (ap (has (Lines node)) part ∙ ih node l)
    claim_node k h ih (Pair op left right) e =
        let (i, j, sum, like) = pair_in plan k h op left right e in
        let o : ℕ = get_or (starts_of plan) k 0 in
        let (a, b) = passes_at plan k h (Pair op left right) e in
        ap (λ w. has (lines_by op (Lines left) (Lines right)) (take w (drop o columns))) sum ∙
        has_by op (Lines left) (Lines right) (Wide left) (Wide right) o columns (long_lines left (omega arith)) like ∙
        ap₂ (combined op) (ap (λ p. has (Lines left) (take (Wide left) (drop p columns))) (sym a) ∙ ih left i) (ap (λ p. has (Lines right) (take (Wide right) (drop p columns))) (sym b) ∙ ih right j)

    claims : (m k : ℕ) → k < m → k < length (nodes_of plan) → Claim k
    claims zero k l h = absurd (omega arith)
    claims (suc m) k l h =
        ap (λ ls. has ls (Part k)) (lines_at_lem k h) ∙ claim_node k h (λ j i. claims m j (omega arith) (omega arith)) (get_or (nodes_of plan) k blank) refl ∙ truth_at_lem plan columns truth k h

    pub claim : (k : ℕ) → k < length (nodes_of plan) → Claim k
    claim k h = claims (suc k) k (omega arith) h

pub by_names : ByNames
by_names plan columns rows truth tells =
    let last : ℕ = length (nodes_of plan) - 1 in
    let h : last < length (nodes_of plan) = omega (arith, plan.some) in
    let (_, wide, small) = plan.wide last h in
    let w : ℕ = get_or (widths_of plan) last 0 in
    let answer = has (lines_at rows (nodes_of plan) last) in
    has_padded (lines_at rows (nodes_of plan) last) w columns small (long_lines plan rows last h) ∙
    ap (λ v. line_fits v columns && answer (take w columns)) wide ∙
    under (line_fits (plan_width (nodes_of plan)) columns) (answer (take w columns)) (get_or (truths plan columns truth) last false)
    (λ fits. let eight = eqb-true (length columns) 8 (and_parts (eqb (length columns) 8) (zero_from (plan_width (nodes_of plan)) columns) fits).0 in
    ap (λ o. answer (take w (drop o columns))) (sym plan.starts.0) ∙ claim plan rows columns eight truth tells last h)
