use Rattle.rules.proofs.OnePlace.{one_place_less, strikes}
use Rattle.rules.proofs.OneRule.{one_rule_more, one_rule_less}
use Rattle.rules.proofs.laws.changing.Goals as goal

pub returns : goal.returns
returns c = record { place = one_place_less; strikes = strikes; more = one_rule_more; less = one_rule_less }
