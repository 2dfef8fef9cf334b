-- The candidates of a plan's nodes.
use Rattle.std.proofs.Common.{◌≡◌, ℕ, zero, suc, ◌-◌, ◌<◌, Bool, true, List, [], map, length, get_or, filter, sym, refl, ap, ◌∙◌, subst, ap₂, inl, inr, arith}
use mathlib.Core.List.Memᴰ
use mathlib.Core.List.{Memᴰ}
use Rattle.std.proofs.lemmas.Bool.{leb-false}
use Rattle.store.specs.declared.row.Row.{Row}
use Rattle.plan.specs.Answers.{chosen, width_by, lines_by, lines_of, lines_at, padded}
use Rattle.plan.specs.Filling.{alike}
use Rattle.candidates.specs.Laws.{AllCandidates}
use Rattle.plan.specs.Leaves.{fields_of}
use Rattle.plan.specs.Nodes.{grown, blank}
use Rattle.plan.specs.Plans.{nodes_of, widths_of}
use Rattle.candidates.specs.Candidates.{candidates_by, candidates_of, candidates_at}
use Rattle.plan.specs.declared.node.Op.{Op}
use Rattle.plan.specs.declared.node.Op.TheVariants.{Product, Union, Difference}
use Rattle.plan.specs.declared.node.Node.{Node}
use Rattle.plan.specs.declared.node.Node.TheVariants.{Leaf, Choice, Pair}
use Rattle.plan.specs.declared.plan.Plan.{Plan}
use Rattle.plan.proofs.Answering.{long_by, lines_at_lem}
use Rattle.plan.proofs.Grown.{Local, value_at, pair_early}
use Rattle.plan.proofs.Having.{Long, long_leaf, leaf_pick, leaf_put}
use Rattle.plan.proofs.Members.{kept_put, kept_pick, pairs_put, pairs_pick, line_in, line_has}
use Rattle.plan.proofs.PlanNodes.{leaf_in, choice_in, pair_in}

candidates_local : (rows : List Row) → Local [] (candidates_of rows)
candidates_local rows xs ys k same (Leaf relation arity fields) f = refl
candidates_local rows xs ys k same (Choice node comparison) f = ap (filter (chosen comparison)) (same node (leb-false k node f))
candidates_local rows xs ys k same (Pair op left right) f = let (a, b) = pair_early k left right f in ap₂ (candidates_by op) (same left a) (same right b)

long_candidates_by : (op : Op) (ps qs : List (List ℕ)) (v w : ℕ) → Long v ps → Long w qs → alike op v w ≡ true → Long (width_by op v w) (candidates_by op ps qs)
long_candidates_by Product ps qs v w f g like = long_by Product ps qs v w f g like
long_candidates_by Union ps qs v w f g like = long_by Union ps qs v w f g like
long_candidates_by Difference ps qs v w f g like = f

module _ (plan : Plan) (rows : List Row) where
  abbrev Cands : ℕ → List (List ℕ)
  Cands k = candidates_at rows (nodes_of plan) k

  abbrev Wide : ℕ → ℕ
  Wide k = get_or (widths_of plan) k 0

  pub candidates_at_lem : (k : ℕ) → k < length (nodes_of plan) → Cands k ≡ candidates_of rows (grown (candidates_of rows) [] (nodes_of plan)) (get_or (nodes_of plan) k blank)
  candidates_at_lem k h =
      value_at [] (candidates_of rows) (candidates_local rows) (nodes_of plan) plan.early k h

  -- each candidate of a node is as long as the node is wide
  long_node : (k : ℕ) → k < length (nodes_of plan) → ((j : ℕ) → j < k → Long (Wide j) (Cands j)) → (n : Node) → get_or (nodes_of plan) k blank ≡ n → Long (Wide k) (candidates_of rows (grown (candidates_of rows) [] (nodes_of plan)) n)
  long_node k h ih (Leaf relation arity fields) e t m = long_leaf relation (fields_of arity fields) rows t m ∙ sym (leaf_in plan k h relation arity fields e)
  long_node k h ih (Choice node comparison) e t m = let (l, same, _) = choice_in plan k h node comparison e in ih node l t (kept_pick _ (Cands node) m).0 ∙ sym same
  long_node k h ih (Pair op left right) e t m =
      let (i, j, sum, like) = pair_in plan k h op left right e in
      long_candidates_by op (Cands left) (Cands right) (Wide left) (Wide right) (ih left i) (ih right j) like t m ∙ sym sum

  long_below : (m k : ℕ) → k < m → k < length (nodes_of plan) → Long (Wide k) (Cands k)
  long_below zero k l h = absurd (omega arith)
  long_below (suc m) k l h = subst (Long (Wide k)) (sym (candidates_at_lem k h)) (long_node k h (λ j i. long_below m j (omega arith) (omega arith)) (get_or (nodes_of plan) k blank) refl)

  pub long_candidates : (k : ℕ) → k < length (nodes_of plan) → Long (Wide k) (Cands k)
  long_candidates k h = long_below (suc k) k (omega arith) h

-- every line is among the candidates
abbrev Part : List (List ℕ) → List (List ℕ) → Type 0
Part ts cs = (t : List ℕ) → Memᴰ t ts → Memᴰ t cs

part_by : (op : Op) (ps qs cs ds : List (List ℕ)) → Part ps cs → Part qs ds → Part (lines_by op ps qs) (candidates_by op cs ds)
part_by Product ps qs cs ds f g t m = let (u, v, i, j, e) = pairs_pick ps qs t m in subst (λ x. Memᴰ x (lines_by Product cs ds)) e (pairs_put (f u i) (g v j))
part_by Union ps qs cs ds f g t m = elim (Memᴰ.append_cases ps m) [ inl n ↦ Memᴰ.append_left ds (f t n) | inr n ↦ Memᴰ.append_right cs (g t n) ]
part_by Difference ps qs cs ds f g t m = f t (kept_pick _ ps m).0

module _ (plan : Plan) (R : Row → Bool) (rows : List Row) where
  abbrev Lines : ℕ → List (List ℕ)
  Lines k = lines_at (filter R rows) (nodes_of plan) k

  part_node : (k : ℕ) → k < length (nodes_of plan) → ((j : ℕ) → j < k → Part (Lines j) (Cands plan rows j)) → (n : Node) → get_or (nodes_of plan) k blank ≡ n →
      Part (lines_of (filter R rows) (grown (lines_of (filter R rows)) [] (nodes_of plan)) n) (candidates_of rows (grown (candidates_of rows) [] (nodes_of plan)) n)
  part_node k h ih (Leaf relation arity fields) e t m =
      let (r, i, good, o) = leaf_pick relation (fields_of arity fields) (filter R rows) t m in
      leaf_put relation (fields_of arity fields) rows r t (kept_pick R rows i).0 good o
  part_node k h ih (Choice node comparison) e t m =
      let (i, good) = kept_pick (chosen comparison) (Lines node) m in
      kept_put (chosen comparison) (ih node (choice_in plan k h node comparison e).0 t i) good
  part_node k h ih (Pair op left right) e t m =
      let (i, j, _, _) = pair_in plan k h op left right e in
      part_by op (Lines left) (Lines right) (Cands plan rows left) (Cands plan rows right) (ih left i) (ih right j) t m

  part_below : (m k : ℕ) → k < m → k < length (nodes_of plan) → Part (Lines k) (Cands plan rows k)
  part_below zero k l h = absurd (omega arith)
  part_below (suc m) k l h =
      subst (λ cs. Part (Lines k) cs) (sym (candidates_at_lem plan rows k h)) (subst (λ ts. Part ts (candidates_of rows (grown (candidates_of rows) [] (nodes_of plan)) (get_or (nodes_of plan) k blank))) (sym (lines_at_lem plan (filter R rows) k h))
      (part_node k h (λ j i. part_below m j (omega arith) (omega arith)) (get_or (nodes_of plan) k blank) refl))

pub all_candidates : AllCandidates
all_candidates plan R rows columns h =
    let last : ℕ = length (nodes_of plan) - 1 in
    let (t, i, e) = Memᴰ.of_map padded (lines_at (filter R rows) (nodes_of plan) last) (line_in columns (map padded (lines_at (filter R rows) (nodes_of plan) last)) h) in
    line_has (subst (λ c. Memᴰ c (map padded (candidates_at rows (nodes_of plan) last))) e (Memᴰ.map padded (part_below plan R rows (suc last) last (omega arith) (omega (arith, plan.some)) t i)))
