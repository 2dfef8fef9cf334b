use Rattle.std.proofs.Common.{rules, ◌≡◌, leb, length, filter, ap, arith}
use Rattle.std.proofs.lemmas.List.Sums.{length-filter, count_by-le-length}
use Rattle.ordered.specs.Lists.{items_in}
use Rattle.store.specs.Sides.{all_columns}
use Rattle.candidates.proofs.wanted.Wanted.alone.Goals as goal

pub returns-clause-few : goal.returns-clause-few
returns-clause-few c =
    let own = items_in c.args.self.now.comparisons in
    let test = all_columns (λ column. leb c.args.at column) in
    let kept : items_in c.retain.new.self ≡ filter test own = search rules in
    omega (arith, ap length kept, length-filter test own, count_by-le-length test own)
