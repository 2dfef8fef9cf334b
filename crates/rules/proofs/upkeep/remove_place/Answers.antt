use Rattle.std.proofs.Common.{set, None, sym, subst}
use Rattle.rules.specs.Listing.{Lists, is_conflict}
use Rattle.rules.proofs.Emptied.{emptied, others_alike}
use Rattle.rules.proofs.OnePlace.{strikes}
use Rattle.rules.proofs.upkeep.remove_place.Goals as goal

pub returns-clause-exact : goal.returns-clause-exact
returns-clause-exact c table rules ls =
    let p = c.args.emptied in
    subst (Lists (is_conflict (set table p None) rules)) (sym c.drop_place.ensures) (strikes (set table p None) table p (others_alike table p) (emptied table p) rules _ ls)
