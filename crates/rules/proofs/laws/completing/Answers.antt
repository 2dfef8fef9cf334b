use Rattle.rules.proofs.OnePlace.{put_starts, put_undone}
use Rattle.rules.proofs.OneRule.{rule_starts, rule_undone}
use Rattle.rules.proofs.Rounds.{round_starts, enters, round, round_ends}
use Rattle.rules.proofs.laws.completing.Goals as goal

pub returns : goal.returns
returns c = record { put = put_starts; rule = rule_starts; starts = round_starts; enters = enters; round = round; ends = round_ends; unput = put_undone; unrule = rule_undone }
