use Rattle.std.proofs.Common.{rules, ◌≡◌, ℕ, ◌+◌, ◌-◌, ◌<◌, ◌≤◌, List, [], ◌∷◌, ◌++◌, length, get_or, take, drop, filter, leb, true, Option, Some, None, sym, subst, ap, ap₂, ◌∙◌, arith, length-append}
use Rattle.std.specs.Range.Bound.{bound_map}
use Rattle.store.specs.Held.{rows_of}
use Rattle.ordered.specs.Lists.{items_in}
use Rattle.plan.specs.Leaves.{opens, leaf_lines}
use Rattle.plan.specs.Filling.{inside}
use Rattle.plan.specs.Plans.{nodes_of, widths_of, starts_of}
use Rattle.plan.specs.declared.node.Op.TheVariants.{Product}
use Rattle.plan.specs.declared.node.Node.TheVariants.{Pair}
use Rattle.plan.proofs.PlanNodes.{leaf_in, choice_in, pair_in, passes_at}
use Rattle.store.specs.Sides.{all_columns}
use Rattle.std.specs.declared.ops.Bound.TheVariants.{Excluded}
use Rattle.candidates.specs.declared.wanted.Wanted.{Wanted}
use Rattle.candidates.specs.Candidates.{before, candidates_at}
use Rattle.candidates.specs.Seeking.{Padded, Least, Finds, lesser, line_of, on_left, on_right}
use Rattle.candidates.specs.Wanting.{passes, shifted}
use Rattle.candidates.proofs.Going.{remain, remain_less}
use Rattle.candidates.proofs.Searching.{Pairs, stands, leaf_finds, choice_finds, union_finds, difference_finds, pairs_start, pairs_end, alone_ends, pairs_on, pairs_found}
use Rattle.candidates.proofs.nodes.Candidates.+least.Given as given
use Rattle.candidates.proofs.nodes.Candidates.+least.Goals as goal
use Rattle.candidates.proofs.nodes.Candidates.+least.Goals.{at_product-After-width-cut, at_product-After-begin-at, at_product-After-line-start_line, at_product-After-on_left-on_left, at_product-After-is_before-past, at_product-After-on_right-on_right}

-- ---- a node
pub least-at_leaf-requires : goal.least-at_leaf-requires
least-at_leaf-requires g t c =
    let plan = c.args.self.now.plan.now in
    let is = stands plan c.steps.result.now c.steps.ensures c.args.k _ _ c.requires.within c.in-Leaf.is in
    let wide = leaf_in plan c.args.k c.requires.within c.in-Leaf.relation c.in-Leaf.arity c.in-Leaf.fields is in
    record {
      wide = c.search.ensures.width ∙ wide ∙ ap (λ leaf. opens leaf.fields) (sym c.new.ensures);
      room = omega (arith, plan.room c.args.k c.requires.within, c.search.ensures.width, c.begin.ensures);
    }

pub least-width-requires : goal.least-width-requires
least-width-requires g t c =
    let plan = c.args.self.now.plan.now in
    let is = stands plan c.steps.result.now c.steps.ensures c.args.k _ _ c.requires.within c.in-Choice.is in
    let small = (choice_in plan c.args.k c.requires.within _ _ is).0 in
    omega arith

pub least-also-more-requires : goal.least-also-more-requires
least-also-more-requires g t c =
    let plan = c.args.self.now.plan.now in
    let is = stands plan c.steps.result.now c.steps.ensures c.args.k _ _ c.requires.within c.in-Choice.is in
    let (small, same, fits) = choice_in plan c.args.k c.requires.within _ _ is in
    record {
      few = omega arith;
      room = omega (arith, plan.room c.args.k c.requires.within, c.begin-in-Choice.ensures, c.width.ensures, same);
      inside = subst (λ w. inside w c.in-Choice.comparison ≡ true) (sym c.width.ensures) fits;
    }

pub least-least-requires : goal.least-least-requires
least-least-requires g t c =
    let plan = c.args.self.now.plan.now in
    let is = stands plan c.steps.result.now c.steps.ensures c.args.k _ _ c.requires.within c.in-Choice.is in
    let small = (choice_in plan c.args.k c.requires.within _ _ is).0 in
    let one = ap length c.also-more.ensures.comparisons in
    let more = length-append (items_in c.args.wanted.now.comparisons) (shifted c.begin-in-Choice.result c.in-Choice.comparison ∷ []) in
    search rules

pub least-least-requires-in-Union : goal.least-least-requires-in-Union
least-least-requires-in-Union g t c =
    let plan = c.args.self.now.plan.now in
    let is = stands plan c.steps.result.now c.steps.ensures c.args.k _ _ c.requires.within c.in-Pair.is in
    let small = (pair_in plan c.args.k c.requires.within _ _ _ is).0 in
    search rules

pub least-least-requires-in-Union-2 : goal.least-least-requires-in-Union-2
least-least-requires-in-Union-2 g t c =
    let plan = c.args.self.now.plan.now in
    let is = stands plan c.steps.result.now c.steps.ensures c.args.k _ _ c.requires.within c.in-Pair.is in
    let small = (pair_in plan c.args.k c.requires.within _ _ _ is).1 in
    search rules

pub least-least-requires-in-Difference : goal.least-least-requires-in-Difference
least-least-requires-in-Difference g t c =
    let plan = c.args.self.now.plan.now in
    let is = stands plan c.steps.result.now c.steps.ensures c.args.k _ _ c.requires.within c.in-Pair.is in
    let small = (pair_in plan c.args.k c.requires.within _ _ _ is).0 in
    search rules

pub least-returns-in-Leaf : goal.least-returns-in-Leaf
least-returns-in-Leaf g t c =
    let plan = c.args.self.now.plan.now in
    let rows = rows_of (g.S.Source.model c.args.self.now.source.now).places in
    let wanted = c.args.wanted.now in
    let is = stands plan c.steps.result.now c.steps.ensures c.args.k _ _ c.requires.within c.in-Leaf.is in
    leaf_finds plan rows c.args.k c.requires.within c.args.start wanted c.in-Leaf.relation c.in-Leaf.arity c.in-Leaf.fields is c.at_leaf.result
    (rw (← c.search.ensures.width, ← c.search.ensures.start, ← c.begin.ensures)
    (subst (λ leaf. Least (filter (passes (items_in wanted.comparisons) (take c.begin.result wanted.known)) (leaf_lines leaf.relation leaf.fields rows)) (bound_map (take c.search.result.width) c.search.result.start) c.search.result.width c.at_leaf.result) c.new.ensures c.at_leaf.ensures))

pub least-returns-in-Choice : goal.least-returns-in-Choice
least-returns-in-Choice g t c =
    let plan = c.args.self.now.plan.now in
    let rows = rows_of (g.S.Source.model c.args.self.now.source.now).places in
    let wanted = c.args.wanted.now in
    let is = stands plan c.steps.result.now c.steps.ensures c.args.k _ _ c.requires.within c.in-Choice.is in
    choice_finds plan rows c.args.k c.requires.within c.args.start wanted c.in-Choice.node c.in-Choice.comparison is c.also-more.result
    (c.also-more.ensures.comparisons ∙ ap (λ n. items_in wanted.comparisons ++ shifted n c.in-Choice.comparison ∷ []) c.begin-in-Choice.ensures) c.also-more.ensures.known c.least.result c.least.ensures

pub least-returns-in-Union : goal.least-returns-in-Union
least-returns-in-Union g t c =
    let plan = c.args.self.now.plan.now in
    let rows = rows_of (g.S.Source.model c.args.self.now.source.now).places in
    let is = stands plan c.steps.result.now c.steps.ensures c.args.k _ _ c.requires.within (c.in-Pair.is ∙ ap (λ op. Pair op c.in-Pair.left c.in-Pair.right) c.in-Union.is) in
    subst (Finds rows plan c.args.k c.args.wanted.now c.args.start) (sym (c.lesser.ensures ∙ ap (λ w. lesser w c.least-in-Union.result c.least-in-Union-2.result) c.search-in-Union.ensures.width))
    (union_finds plan rows c.args.k c.requires.within c.args.start c.args.wanted.now c.in-Pair.left c.in-Pair.right is c.least-in-Union.result c.least-in-Union-2.result c.least-in-Union.ensures c.least-in-Union-2.ensures)

pub least-returns-in-Difference : goal.least-returns-in-Difference
least-returns-in-Difference g t c =
    let plan = c.args.self.now.plan.now in
    let rows = rows_of (g.S.Source.model c.args.self.now.source.now).places in
    let is = stands plan c.steps.result.now c.steps.ensures c.args.k _ _ c.requires.within (c.in-Pair.is ∙ ap (λ op. Pair op c.in-Pair.left c.in-Pair.right) c.in-Difference.is) in
    difference_finds plan rows c.args.k c.requires.within c.args.start c.args.wanted.now c.in-Pair.left c.in-Pair.right is c.least-in-Difference.result c.least-in-Difference.ensures

-- ---- a product
-- its width and the cut, by the widths of its node and of the left one
room : (g : given.Over) (t : ℕ) (c : at_product-After-width-cut g t) → c.width-cut.result ≤ c.search-search.result.width
room g t c =
    let wide = (pair_in c.args.self.now.plan.now c.args.k c.requires.within Product c.args.left c.args.right c.requires.stands).2 in
    omega (arith, wide, c.width-cut.ensures, c.search-search.ensures.width)

rest : (g : given.Over) (t : ℕ) (c : at_product-After-width-cut g t) → c.search-search.result.width - c.width-cut.result ≡ get_or (widths_of c.args.self.now.plan.now) c.args.right 0
rest g t c =
    let wide = (pair_in c.args.self.now.plan.now c.args.k c.requires.within Product c.args.left c.args.right c.requires.stands).2 in
    omega (arith, wide, c.width-cut.ensures, c.search-search.ensures.width)

both : (g : given.Over) (t : ℕ) (c : at_product-After-width-cut g t) → c.search-search.result.width ≡ get_or (widths_of c.args.self.now.plan.now) c.args.left 0 + get_or (widths_of c.args.self.now.plan.now) c.args.right 0
both g t c = c.search-search.ensures.width ∙ (pair_in c.args.self.now.plan.now c.args.k c.requires.within Product c.args.left c.args.right c.requires.stands).2

-- the start's line has eight columns
eight : (g : given.Over) (t : ℕ) (c : at_product-After-line-start_line g t) → length (line_of c.args.start) ≡ 8
eight g t c =
    let long : length c.line-start_line.result ≡ 8 = omega arith in
    ap length (ap line_of (sym c.search-search.ensures.start) ∙ sym c.line-start_line.ensures) ∙ long

-- the loop, by the product's own start and by what is known before it
abbrev Looks : (g : given.Over) (t : ℕ) (c : at_product-After-begin-at g t) → Option (List ℕ) → Type 0
Looks g t c =
    Pairs (rows_of (g.S.Source.model c.args.self.now.source.now).places) c.args.self.now.plan.now c.args.left c.args.right (items_in c.args.wanted.now.comparisons)
    (take c.begin-at.result c.args.wanted.now.known) c.search-search.result.start

abbrev Goes : (g : given.Over) (t : ℕ) (c : at_product-After-begin-at g t) → Option (List ℕ) → Type 0
Goes g t c =
    Pairs (rows_of (g.S.Source.model c.args.self.now.source.now).places) c.args.self.now.plan.now c.args.left c.args.right (items_in c.args.wanted.now.comparisons)
    (take (get_or (starts_of c.args.self.now.plan.now) c.args.k 0) c.args.wanted.now.known) c.args.start

goes : (g : given.Over) (t : ℕ) (c : at_product-After-begin-at g t) (o : Option (List ℕ)) → Looks g t c o → Goes g t c o
goes g t c o f =
    let plan = c.args.self.now.plan.now in
    let rows = rows_of (g.S.Source.model c.args.self.now.source.now).places in
    let wanted = c.args.wanted.now in
    subst (λ s. Pairs rows plan c.args.left c.args.right (items_in wanted.comparisons) (take (get_or (starts_of plan) c.args.k 0) wanted.known) s o) c.search-search.ensures.start
    (subst (λ n. Pairs rows plan c.args.left c.args.right (items_in wanted.comparisons) (take n wanted.known) c.search-search.result.start o) c.begin-at.ensures f)

looks : (g : given.Over) (t : ℕ) (c : at_product-After-begin-at g t) (o : Option (List ℕ)) → Goes g t c o → Looks g t c o
looks g t c o f =
    let plan = c.args.self.now.plan.now in
    let rows = rows_of (g.S.Source.model c.args.self.now.source.now).places in
    let wanted = c.args.wanted.now in
    subst (λ n. Pairs rows plan c.args.left c.args.right (items_in wanted.comparisons) (take n wanted.known) c.search-search.result.start o) (sym c.begin-at.ensures)
    (subst (λ s. Pairs rows plan c.args.left c.args.right (items_in wanted.comparisons) (take (get_or (starts_of plan) c.args.k 0) wanted.known) s o) (sym c.search-search.ensures.start) f)

-- what is known behind a left line
behind : (g : given.Over) (t : ℕ) (c : at_product-After-begin-at g t) (more : Wanted) (x : List ℕ) → take (c.begin-at.result + c.width-cut.result) more.known ≡ take c.begin-at.result c.args.wanted.now.known ++ take c.width-cut.result x →
    take (get_or (starts_of c.args.self.now.plan.now) c.args.k 0 + get_or (widths_of c.args.self.now.plan.now) c.args.left 0) more.known
    ≡ take (get_or (starts_of c.args.self.now.plan.now) c.args.k 0) c.args.wanted.now.known ++ take (get_or (widths_of c.args.self.now.plan.now) c.args.left 0) x
behind g t c more x e =
    ap₂ (λ m n. take (m + n) more.known) (sym c.begin-at.ensures) (sym c.width-cut.ensures) ∙ e ∙ ap₂ (λ m n. take m c.args.wanted.now.known ++ take n x) c.begin-at.ensures c.width-cut.ensures

-- where the search on the left begins
left : (g : given.Over) (t : ℕ) (c : at_product-After-on_left-on_left g t) → c.on_left-on_left.result.start ≡ on_left c.args.start
left g t c = c.on_left-on_left.ensures.start ∙ ap on_left c.search-search.ensures.start

-- and on the right of a left line
past : (g : given.Over) (t : ℕ) (c : at_product-After-is_before-past g t) →
    c.is_before-past.result ≡ before (take (get_or (widths_of c.args.self.now.plan.now) c.args.left 0) (line_of c.args.start)) (take (get_or (widths_of c.args.self.now.plan.now) c.args.left 0) c.in-Some.first)
past g t c = c.is_before-past.ensures ∙ ap₂ (λ n s. before (take n s) (take n c.in-Some.first)) (c.on_left-on_left.ensures.width ∙ c.width-cut.ensures) (c.line-start_line.ensures ∙ ap line_of c.search-search.ensures.start)

right : (g : given.Over) (t : ℕ) (c : at_product-After-on_right-on_right g t) → c.search-search.result.width - c.width-cut.result ≡ get_or (widths_of c.args.self.now.plan.now) c.args.right 0 →
    bound_map (take (get_or (widths_of c.args.self.now.plan.now) c.args.right 0)) c.on_right-on_right.result.start
    ≡ on_right (bound_map (λ at. take (get_or (widths_of c.args.self.now.plan.now) c.args.right 0) (drop (get_or (widths_of c.args.self.now.plan.now) c.args.left 0) at)) c.args.start) c.is_before-past.result
right g t c wide =
    ap (λ n. bound_map (take n) c.on_right-on_right.result.start) (sym wide) ∙ c.on_right-on_right.ensures.start ∙
    ap₂ (λ n s. on_right (bound_map (λ at. take n (drop c.width-cut.result at)) s) c.is_before-past.result) wide c.search-search.ensures.start ∙
    ap (λ m. on_right (bound_map (λ at. take (get_or (widths_of c.args.self.now.plan.now) c.args.right 0) (drop m at)) c.args.start) c.is_before-past.result) c.width-cut.ensures

pub at_product-returns-in_err-least : goal.at_product-returns-in_err-least
at_product-returns-in_err-least g t c =
    let plan = c.args.self.now.plan.now in
    let rows = rows_of (g.S.Source.model c.args.self.now.source.now).places in
    let wanted = c.args.wanted.now in
    subst (Finds rows plan c.args.k wanted c.args.start) (sym c.from_residual.ensures)
    (alone_ends plan rows c.args.k c.requires.within c.args.start wanted c.args.left c.args.right c.requires.stands (eight g t (goal.at.at_product-returns-in_err-least g t c).After-line-start_line) c.alone.result
    (c.alone.ensures.comparisons ∙ ap₂ (λ m n. filter (all_columns (λ column. leb (m + n) column)) (items_in wanted.comparisons)) c.begin-at.ensures c.width-cut.ensures) c.in_err-least.ensures)

pub at_product-on_left-on_left-requires : goal.at_product-on_left-on_left-requires
at_product-on_left-on_left-requires g t c = room g t (goal.at.at_product-on_left-on_left-requires g t c).After-width-cut

pub at_product-loop-next-init : goal.at_product-loop-next-init
at_product-loop-next-init g t c =
    let plan = c.args.self.now.plan.now in
    let rows = rows_of (g.S.Source.model c.args.self.now.source.now).places in
    let wanted = c.args.wanted.now in
    let at = goal.at.at_product-loop-next-init g t c in
    looks g t at.After-begin-at c.least-next.result
    (pairs_start plan rows c.args.k c.requires.within c.args.start wanted c.args.left c.args.right c.requires.stands (eight g t at.After-line-start_line) c.least-next.result
    (subst (λ s. Finds rows plan c.args.left wanted s c.least-next.result) (left g t at.After-on_left-on_left) c.least-next.ensures))

pub at_product-on_right-on_right-requires : goal.at_product-on_right-on_right-requires
at_product-on_right-on_right-requires g t c = room g t (goal.at.at_product-on_right-on_right-requires g t c).After-width-cut

pub at_product-joined-requires : goal.at_product-joined-requires
at_product-joined-requires g t c =
    let at = goal.at.at_product-joined-requires g t c in
    let (i, r, f, l, z) = subst (Looks g t at.After-begin-at) c.in-Some.is c.loop-next.invariant in
    record {
      room = room g t at.After-width-cut;
      ends = λ k h. z k (omega (arith, c.width-cut.ensures));
    }

pub at_product-returns-in-Some-least : goal.at_product-returns-in-Some-least
at_product-returns-in-Some-least g t c =
    let plan = c.args.self.now.plan.now in
    let rows = rows_of (g.S.Source.model c.args.self.now.source.now).places in
    let wanted = c.args.wanted.now in
    let first = c.in-Some.first in
    let at = goal.at.at_product-returns-in-Some-least g t c in
    pairs_found plan rows c.args.k c.requires.within c.args.start wanted c.args.left c.args.right c.requires.stands (eight g t at.After-line-start_line)
    first (goes g t at.After-begin-at (Some first) (subst (Looks g t at.After-begin-at) c.in-Some.is c.loop-next.invariant)) c.is_before-past.result (past g t at.After-is_before-past)
    c.on_right-on_right.result.start (right g t at.After-on_right-on_right (rest g t at.After-width-cut)) c.behind.result c.behind.ensures.comparisons (behind g t at.After-begin-at c.behind.result first c.behind.ensures.known)
    c.in-Some-least.second c.joined.result (subst (Finds rows plan c.args.right c.behind.result c.on_right-on_right.result.start) c.in-Some-least.is c.least-in-Some.ensures)
    (ap (λ n. take n c.joined.result) (sym (both g t at.After-width-cut)) ∙ c.joined.ensures.parts ∙ ap₂ (λ m n. take m first ++ take n c.in-Some-least.second) c.width-cut.ensures (rest g t at.After-width-cut)) c.joined.ensures.long
    (subst (λ w. Padded w c.joined.result) (both g t at.After-width-cut) c.joined.ensures.padded)

pub at_product-loop-next-smaller : goal.at_product-loop-next-smaller
at_product-loop-next-smaller g t c =
    let plan = c.args.self.now.plan.now in
    let rows = rows_of (g.S.Source.model c.args.self.now.source.now).places in
    let wanted = c.args.wanted.now in
    let lines = λ (n : ℕ). filter (passes (items_in wanted.comparisons) (take n wanted.known)) (candidates_at rows (nodes_of plan) c.args.left) in
    let w = get_or (widths_of plan) c.args.left 0 in
    let starts : get_or (starts_of plan) c.args.left 0 ≡ c.begin-at.result = (passes_at plan c.args.k c.requires.within (Pair Product c.args.left c.args.right) c.requires.stands).0 ∙ sym c.begin-at.ensures in
    subst (λ o. remain (lines c.begin-at.result) w c.least-next-in-Some.result < remain (lines c.begin-at.result) w o) (sym c.in-Some.is)
    (remain_less (lines c.begin-at.result) w c.in-Some.first c.least-next-in-Some.result
    (subst (λ n. Least (lines n) (Excluded (take w c.in-Some.first)) w c.least-next-in-Some.result) starts c.least-next-in-Some.ensures))

pub at_product-loop-next-preserved : goal.at_product-loop-next-preserved
at_product-loop-next-preserved g t c =
    let plan = c.args.self.now.plan.now in
    let rows = rows_of (g.S.Source.model c.args.self.now.source.now).places in
    let wanted = c.args.wanted.now in
    let first = c.in-Some.first in
    let at = goal.at.at_product-loop-next-preserved g t c in
    looks g t at.After-begin-at c.least-next-in-Some.result
    (pairs_on plan rows c.args.k c.requires.within c.args.start wanted c.args.left c.args.right c.requires.stands (eight g t at.After-line-start_line)
    first (goes g t at.After-begin-at (Some first) (subst (Looks g t at.After-begin-at) c.in-Some.is c.loop-next.invariant)) c.is_before-past.result (past g t at.After-is_before-past)
    c.on_right-on_right.result.start (right g t at.After-on_right-on_right (rest g t at.After-width-cut)) c.behind.result c.behind.ensures.comparisons (behind g t at.After-begin-at c.behind.result first c.behind.ensures.known)
    (subst (Finds rows plan c.args.right c.behind.result c.on_right-on_right.result.start) c.in_default-least.is c.least-in-Some.ensures) c.least-next-in-Some.result c.least-next-in-Some.ensures)

pub at_product-returns : goal.at_product-returns
at_product-returns g t c =
    let plan = c.args.self.now.plan.now in
    let rows = rows_of (g.S.Source.model c.args.self.now.source.now).places in
    let at = goal.at.at_product-returns g t c in
    pairs_end plan rows c.args.k c.requires.within c.args.start c.args.wanted.now c.args.left c.args.right c.requires.stands (eight g t at.After-line-start_line)
    (goes g t at.After-begin-at None (subst (Looks g t at.After-begin-at) c.in_default.is c.loop-next.invariant))
