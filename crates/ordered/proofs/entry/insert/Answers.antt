-- `insert` fills the gap that it has opened.
use Rattle.std.proofs.Common.{◌+◌, take, set, ap, ◌∙◌}
use Rattle.ordered.proofs.Opening.{inserted}
use Rattle.ordered.proofs.entry.insert.Goals as goal

pub returns-clause-list : goal.returns-clause-list
returns-clause-list g c =
    ap (λ l. take (c.args.count + 1) (set l c.args.place c.args.x)) c.copy_within.ensures.after
    ∙ inserted c.args.items.now c.args.count c.args.place c.args.x c.requires.inside c.requires.room
