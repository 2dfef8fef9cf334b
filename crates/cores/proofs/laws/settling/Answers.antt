use Rattle.cores.proofs.Surely.{sure_by_places}
use Rattle.cores.proofs.Coring.{core_by_places}
use Rattle.cores.proofs.ByRules.{sure_by_rules, core_by_rules}
use Rattle.cores.proofs.laws.settling.Goals as goal

pub returns : goal.returns
returns c = record { sure = sure_by_places; core = core_by_places; sure_by_rules = sure_by_rules; core_by_rules = core_by_rules }
