use Rattle.cores.proofs.Turning.{blocked, none_fits, shut_out_lem, each_tried, free_is_best}
use Rattle.cores.proofs.laws.searching.Goals as goal

pub returns : goal.returns
returns c = record { blocked = blocked; none = none_fits; shut = shut_out_lem; each = each_tried; free = free_is_best }
