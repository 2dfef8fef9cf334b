use Rattle.std.proofs.Common.{length, get_or, sym, ap, ltb}
use Rattle.std.proofs.lemmas.Bool.{and_parts, ltb-true}
use Rattle.rules.proofs.Naming.{chosen_columns}
use Rattle.rules.proofs.rule.fit.column_of.Goals as goal

pub returns : goal.returns
returns c =
    let picks = c.args.picks.now in
    let column = c.args.column in
    let inside = ltb-true column.atom (length picks) (and_parts (ltb column.atom (length picks)) (ltb column.column 4) c.requires).0 in
    sym (ap (λ l. get_or l column.column 0) (chosen_columns picks column.atom _ inside))
