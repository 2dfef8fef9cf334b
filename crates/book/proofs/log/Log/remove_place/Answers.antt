use Rattle.book.specs.Books.{rules_of}
use Rattle.book.proofs.log.Log.remove_place.Goals as goal

pub returns-clause-exact : goal.returns-clause-exact
returns-clause-exact c = λ table exact. c.remove_place.ensures.exact table (rules_of c.args.self.now) exact
