use Rattle.std.proofs.Common.{take, filter}
use Rattle.ordered.specs.Lists.{items_in}
use Rattle.candidates.specs.Wanting.{passes}
use Rattle.std.specs.Range.Bound.{bound_map}
use Rattle.store.specs.Held.{rows_of}
use Rattle.plan.specs.Leaves.{leaf_lines}
use Rattle.candidates.specs.Seeking.{Least}
use Rattle.candidates.proofs.nodes.Candidates.at_leaf.Given as goal

abbrev pub invariant-loop-place : goal.invariant-loop-place
invariant-loop-place g l =
    Least (filter (passes (items_in l.wanted.comparisons) (take l.at l.wanted.known)) (leaf_lines l.leaf.relation l.leaf.fields (rows_of (take l.place (g.S.Source.model l.self.source.now).places)))) (bound_map (take l.search.width) l.search.start) l.search.width l.least
