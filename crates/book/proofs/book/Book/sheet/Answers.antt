use Rattle.std.proofs.Common.{◌≡◌, length, Ok, Err, sym, subst, rules as search_rules}
use Rattle.rules.specs.Entries.{listing as listing_of}
use Rattle.cores.proofs.ByRules.{listed_held}
use Rattle.book.specs.Books.{rules_of}
use Rattle.book.specs.Calls.{ListingSays}
use Rattle.plan.specs.Plans.{nodes_of}
use Rattle.book.specs.declared.refusal.Refusal.TheVariants.{Sheet as NoSheet}
use Rattle.book.proofs.Tested.{exact_of}
use Rattle.book.proofs.Sheeting.{have_atoms, readable, sheet_refused, sheet_told, listing_lives}
use Rattle.book.proofs.book.Book.sheet.Goals as goal

pub sheet-requires : goal.sheet-requires
sheet-requires g c =
    let b = c.args.self.now in
    let s = g.S.Source.model b.source in
    let listed = listing_of b.log.conflicts in
    let exact = exact_of s b.log b.right b.full b.once in
    record { held = listed_held s (rules_of b.log) listed exact; some = readable s (rules_of b.log) listed exact c.args.plan.now (length c.args.marks.now) c.args.lines.now c.args.lines.now (have_atoms b.log) }

pub returns-clause-says : goal.returns-clause-says
returns-clause-says g c =
    let b = c.args.self.now in
    let s = g.S.Source.model b.source in
    sheet_told s (rules_of b.log) (listing_of b.log.conflicts) (exact_of s b.log b.right b.full b.once) c.args.plan.now (length c.args.marks.now) c.args.lines.now c.sheet.new.lines c.in_ok-sheet.field-0 c.in_ok-sheet.ensures.says

pub returns-clause-law : goal.returns-clause-law
returns-clause-law g c =
    let b = c.args.self.now in
    listing_lives (g.S.Source.model b.source) (rules_of b.log) c.args.plan.now (length c.args.marks.now) c.args.lines.now c.sheet.new.lines (Ok c.in_ok-sheet.field-0) (returns-clause-says g c)

pub returns-in_err-sheet-clause-says : goal.returns-in_err-sheet-clause-says
returns-in_err-sheet-clause-says g c =
    let b = c.args.self.now in
    let s = g.S.Source.model b.source in
    let said = sheet_refused s (rules_of b.log) (listing_of b.log.conflicts) (exact_of s b.log b.right b.full b.once) c.args.plan.now (length c.args.marks.now) c.args.lines.now c.sheet.new.lines c.in_err-sheet.field-0.0 c.in_err-sheet.ensures.says in
    let told : c.from_residual.result ≡ Err (NoSheet c.in_err-sheet.field-0.0) = search search_rules in
    subst (ListingSays s (rules_of b.log) (nodes_of c.args.plan.now) (length c.args.marks.now) c.args.lines.now c.sheet.new.lines) (sym told) said

pub returns-in_err-sheet-clause-law : goal.returns-in_err-sheet-clause-law
returns-in_err-sheet-clause-law g c =
    let b = c.args.self.now in
    listing_lives (g.S.Source.model b.source) (rules_of b.log) c.args.plan.now (length c.args.marks.now) c.args.lines.now c.sheet.new.lines c.from_residual.result (returns-in_err-sheet-clause-says g c)
