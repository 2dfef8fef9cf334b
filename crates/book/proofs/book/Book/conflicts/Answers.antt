use Rattle.std.proofs.Common.{arith}
use Rattle.std.proofs.lemmas.Bool.{le-leb, leb-true}
use Rattle.rules.specs.Entries.{listing}
use Rattle.rules.proofs.Counting.{counted}
use Rattle.book.specs.Books.{rules_of}
use Rattle.book.proofs.Tested.{exact_of}
use Rattle.book.proofs.book.Book.conflicts.Goals as goal

pub returns-clause-counts : goal.returns-clause-counts
returns-clause-counts g c =
    let b = c.args.self.now in
    let s = g.S.Source.model b.source in
    let tells = counted s.places (g.met.S.Source.keeps b.source).once (rules_of b.log) (listing b.log.conflicts) (exact_of s b.log b.right b.full b.once) in
    let n = c.len.result in
    let is = c.len.ensures in
    record { all = (tells n).0 (le-leb _ _ (omega arith)); different = λ m lt few. let h = leb-true _ _ ((tells m).1 few) in omega arith }
