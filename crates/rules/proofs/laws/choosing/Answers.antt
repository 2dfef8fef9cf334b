use Rattle.rules.proofs.Choosing.{by_choice, choice_apart}
use Rattle.rules.proofs.Ascents.{one_order}
use Rattle.rules.proofs.laws.choosing.Goals as goal

pub returns : goal.returns
returns c = record { choice = by_choice; apart = choice_apart; order = one_order }
