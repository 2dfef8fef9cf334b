use Rattle.std.proofs.Common.{List, Ok, Option, sym, subst, rules}
use Rattle.store.specs.declared.row.Row.{Row}
use Rattle.rules.specs.Entries.{listing}
use Rattle.rules.specs.Listing.{Lists, is_conflict}
use Rattle.rules.specs.Rules.{Denial}
use Rattle.book.specs.Books.{rules_of, Exact}
use Rattle.book.specs.Plain.{striking, taken}
use Rattle.book.specs.Runs.{LivesOn}
use Rattle.book.proofs.Lives.{striking_lives}
use Rattle.book.proofs.Tested.{exact_of, right_of, full_of}
use Rattle.book.proofs.book.Book.strike.Given as given
use Rattle.book.proofs.book.Book.strike.Goals as goal

pub returns-in_err-place-clause-law : goal.returns-in_err-place-clause-law
returns-in_err-place-clause-law g c =
    let b = c.args.self.now in
    striking_lives (g.S.Source.model b.source) (g.S.Source.model c.strike.new.self) (rules_of b.log) c.args.row.now (g.met.S.Source.keeps b.source).once c.from_residual.result (search rules)

pub returns-clause-law : goal.returns-clause-law
returns-clause-law g c =
    let b = c.args.self.now in
    let s = g.S.Source.model b.source in
    let s' = g.S.Source.model c.strike.new.self in
    let row = c.args.row.now in
    subst (λ (after : List Denial). LivesOn s (rules_of b.log) s' after (striking row) taken) (sym c.remove_place.ensures.rules)
    (striking_lives s s' (rules_of b.log) row (g.met.S.Source.keeps b.source).once (Ok c.in_ok-place.place) c.in_ok-place.ensures.says)

-- the list is exact for the places without the row
kept : (g : given.Over) (c : goal.After-remove_place g) → Exact (g.S.Source.model c.strike.new.self) c.remove_place.new.self
kept g c =
    let b = c.args.self.now in
    let s = g.S.Source.model b.source in
    let log = c.remove_place.new.self in
    let exact = c.remove_place.ensures.exact s.places (exact_of s b.log b.right b.full b.once) in
    subst (λ (places : List (Option Row)). Lists (is_conflict places (rules_of log)) (listing log.conflicts)) (sym c.in_ok-place.ensures.says.gone) exact

pub invariant_of-self-2 : goal.invariant_of-self-2
invariant_of-self-2 g c =
    let s = g.S.Source.model c.strike.new.self in
    let log = c.remove_place.new.self in
    let exact = kept g c in
    record { right = right_of s log exact; full = full_of s log exact; once = exact.once }
