use Rattle.std.proofs.Common.{rules, [], ◌∷◌, take, sym, subst}
use Rattle.std.specs.Range.Bound.{bound_map}
use Rattle.ordered.specs.Lists.{items_in}
use Rattle.plan.specs.Leaves.{leaf_lines}
use Rattle.candidates.specs.Seeking.{Single}
use Rattle.candidates.specs.Wanting.{passes}
use Rattle.candidates.proofs.Least.{single_least}
use Rattle.candidates.proofs.search.Search.least_of.Goals as goal

pub returns : goal.returns
returns c =
    let lines = leaf_lines c.args.leaf.now.relation c.args.leaf.now.fields (c.args.row.now ∷ []) in
    let wanted = c.args.wanted.now in
    single_least (bound_map (take c.args.self.now.width) c.args.self.now.start) c.args.self.now.width (passes (items_in wanted.comparisons) (take c.args.at wanted.known)) _ lines c.line_of.result c.filter.result
    (subst (λ n. Single lines n c.line_of.result) (sym c.requires.wide) c.line_of.ensures) (λ a b k. search rules) c.filter.ensures
