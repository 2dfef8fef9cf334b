use Rattle.std.proofs.Common.{◌≡◌, length}
use Rattle.ordered.specs.Lists.{items_in}
use Rattle.verdict.specs.Marking.{lists_of}
use Rattle.verdict.specs.Trying.{Chosen}
use Rattle.verdict.proofs.search.Search.finds_straight.Given as goal

abbrev pub invariant-loop : goal.invariant-loop
invariant-loop l = record {
  each : length (items_in l.choices) ≡ l.index;
  chosen : Chosen (lists_of l.self.conflicts.now) l.self.ins.now l.self.outs.now (items_in l.choices) l.marks;
}
