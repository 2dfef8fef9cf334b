use Rattle.book.specs.Runs.{opened, opening}
use Rattle.book.proofs.runs.session.Goals as goal

pub returns-clause-law : goal.returns-clause-law
returns-clause-law g c before was = c.run.ensures.law before was (opening (opened (g.S.Source.model c.args.source))) c.open-book.ensures.law
