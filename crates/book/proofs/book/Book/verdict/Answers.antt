use Rattle.std.proofs.Common.{length, Ok}
use Rattle.rules.specs.Entries.{listing}
use Rattle.cores.proofs.ByRules.{listed_held}
use Rattle.book.specs.Books.{rules_of}
use Rattle.book.proofs.Tested.{exact_of}
use Rattle.book.proofs.Verdicts.{judged, judging_lives}
use Rattle.book.proofs.book.Book.verdict.Goals as goal

pub verdict-requires : goal.verdict-requires
verdict-requires g c =
    let b = c.args.self.now in
    let s = g.S.Source.model b.source in
    record { held = listed_held s (rules_of b.log) (listing b.log.conflicts) (exact_of s b.log b.right b.full b.once) }

pub returns-clause-says : goal.returns-clause-says
returns-clause-says g c =
    let b = c.args.self.now in
    let s = g.S.Source.model b.source in
    judged s (rules_of b.log) (listing b.log.conflicts) (exact_of s b.log b.right b.full b.once) c.args.plan.now c.args.line.now.columns (length c.args.marks.now) c.args.core.now c.verdict.new.core c.in_ok-verdict.field-0 c.in_ok-verdict.ensures.says

pub returns-clause-law : goal.returns-clause-law
returns-clause-law g c =
    let b = c.args.self.now in
    judging_lives (g.S.Source.model b.source) (rules_of b.log) c.args.plan.now c.args.line.now.columns (length c.args.marks.now) c.args.core.now c.verdict.new.core (Ok c.in_ok-verdict.field-0) (returns-clause-says g c)
