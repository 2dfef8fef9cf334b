use Rattle.std.proofs.Common.{◌≡◌, List, Ok, Err, sym, ◌∙◌, subst, rules as search_rules}
use Rattle.rules.specs.Entries.{listing}
use Rattle.rules.specs.Listing.{Listed, Lists, is_conflict}
use Rattle.rules.specs.Rules.{Denial}
use Rattle.book.specs.Books.{rules_of}
use Rattle.book.specs.Calls.{EntrySays}
use Rattle.book.specs.Plain.{entering, taken, refused}
use Rattle.book.specs.Runs.{LivesOn}
use Rattle.book.specs.declared.refusal.Refusal.TheVariants.{EntryConflicts}
use Rattle.book.proofs.Lives.{entry_lives}
use Rattle.book.proofs.Upheld.{before_put, same_store, undone, many_with}
use Rattle.book.proofs.Tested.{exact_of, right_of, full_of}
use Rattle.book.proofs.book.Book.entry.Goals as goal

pub returns-in_err-place-clause-law : goal.returns-in_err-place-clause-law
returns-in_err-place-clause-law g c =
    let b = c.args.self.now in
    entry_lives (g.S.Source.model b.source) (g.S.Source.model c.put.new.self) (rules_of b.log) c.args.row.now c.from_residual.result (search search_rules)

pub add_place-requires : goal.add_place-requires
add_place-requires g c =
    let b = c.args.self.now in
    let put = c.in_ok-place.ensures in
    before_put (rules_of b.log) (listing b.log.conflicts) (g.S.Source.model b.source) (g.S.Source.model c.put.new.self) c.args.row.now _ put.says (exact_of (g.S.Source.model b.source) b.log b.right b.full b.once)

pub returns-in-Ok-clause-law : goal.returns-in-Ok-clause-law
returns-in-Ok-clause-law g c =
    let b = c.args.self.now in
    let rules = rules_of b.log in
    let s = g.S.Source.model b.source in
    let s' = g.S.Source.model c.put.new.self in
    let row = c.args.row.now in
    let added = c.in-Ok.ensures in
    subst (λ (rs : List Denial). LivesOn s rules s' rs (entering row) taken) (sym added.rules) (entry_lives s s' rules row (Ok c.in_ok-place.place) (c.in_ok-place.ensures.says, added.says.1))

pub returns-in-Err : goal.returns-in-Err
returns-in-Err g c =
    let b = c.args.self.now in
    let rules = rules_of b.log in
    let log = c.add_place.new.self in
    let s = g.S.Source.model b.source in
    let s' = g.S.Source.model c.put.new.self in
    let s'' = g.S.Source.model c.strike.new.self in
    let row = c.args.row.now in
    let put = c.in_ok-place.ensures in
    let full = c.in-Err.ensures in
    let struck = c.strike.ensures in
    let back : s'' ≡ s = undone s s' s'' row _ put.says (g.met.S.Source.keeps c.put.new.self).once c.strike.result struck.says in
    let says : EntrySays s s'' rules row (Err EntryConflicts) = (back, put.says.granted, many_with s s' s'' row _ put.says rules full.says.1) in
    record {
      anchor = struck.anchor ∙ put.anchor;
      arity = λ i. (back i).arity;
      rules = full.rules;
      says = says;
      law = subst (λ (rs : List Denial). LivesOn s rules s'' rs (entering row) (refused 15)) (sym full.rules) (entry_lives s s'' rules row (Err EntryConflicts) says);
    }

pub invariant_of-self-in-Ok : goal.invariant_of-self-in-Ok
invariant_of-self-in-Ok g c =
    let log = c.add_place.new.self in
    let s' = g.S.Source.model c.put.new.self in
    let added = c.in-Ok.ensures in
    let exact = subst (λ (rs : List Denial). Lists (is_conflict s'.places rs) (listing log.conflicts)) (sym added.rules) added.says.0 in
    record { right = right_of s' log exact; full = full_of s' log exact; once = exact.once }

pub invariant_of-self-in-Err : goal.invariant_of-self-in-Err
invariant_of-self-in-Err g c =
    let b = c.args.self.now in
    let rules = rules_of b.log in
    let log = c.add_place.new.self in
    let s = g.S.Source.model b.source in
    let s' = g.S.Source.model c.put.new.self in
    let s'' = g.S.Source.model c.strike.new.self in
    let put = c.in_ok-place.ensures in
    let full = c.in-Err.ensures in
    let back : s'' ≡ s = undone s s' s'' c.args.row.now _ put.says (g.met.S.Source.keeps c.put.new.self).once c.strike.result c.strike.ensures.says in
    let listed = subst (λ (l : List Listed). Lists (is_conflict s.places rules) l) (sym full.says.0) (exact_of s b.log b.right b.full b.once) in
    let exact = same_store (rules_of log) (listing log.conflicts) s s'' back (subst (λ (rs : List Denial). Lists (is_conflict s.places rs) (listing log.conflicts)) (sym full.rules) listed) in
    record { right = right_of s'' log exact; full = full_of s'' log exact; once = exact.once }
