use Rattle.std.proofs.Common.{rules}
use Rattle.store.specs.Held.{rows_of}
use Rattle.plan.specs.Answers.{among}
use Rattle.answers.proofs.Finds.{found}
use Rattle.answers.proofs.held.plain.Goals as goal

pub returns : goal.returns
returns g c =
    let s = g.S.Source.model c.args.source.now in
    let rows = rows_of s.places in
    (rw (c.in_ok-check_leaves.ensures) c.in_ok-check_line.ensures, c.holds.ensures.means rows (c.at_leaves-held.ensures (among rows) (λ row b k. search (rules, found))))
