use Rattle.std.proofs.Common.{◌+◌, ◌*◌, filter, take, slice_index}
use Rattle.ordered.specs.Lists.{items_in}
use Rattle.store.specs.Held.{rows_of}
use Rattle.plan.specs.Plans.{nodes_of, widths_of}
use Rattle.candidates.specs.Candidates.{candidates_at}
use Rattle.candidates.specs.Wanting.{passes}
use Rattle.candidates.proofs.Going.{remain}
use Rattle.candidates.proofs.Searching.{Pairs}
use Rattle.candidates.proofs.nodes.Candidates.+least.Given as goal

-- a product comes just before the node itself, and after each that it names
abbrev pub decreases-least : goal.decreases-least
decreases-least g l = 2 * l.k + 1

abbrev pub decreases-at_product : goal.decreases-at_product
decreases-at_product g l = 2 * l.k

abbrev pub invariant-at_product-loop-next : goal.invariant-at_product-loop-next
invariant-at_product-loop-next g l =
    Pairs (rows_of (g.S.Source.model l.self.source.now).places) l.self.plan.now l.left l.right (items_in l.wanted.comparisons) (take l.at l.wanted.known) l.search.start l.next

abbrev pub decreases-at_product-loop-next : goal.decreases-at_product-loop-next
decreases-at_product-loop-next g l =
    remain (filter (passes (items_in l.wanted.comparisons) (take l.at l.wanted.known)) (candidates_at (rows_of (g.S.Source.model l.self.source.now).places) (nodes_of l.self.plan.now) l.left)) (slice_index (widths_of l.self.plan.now) l.left) l.next
