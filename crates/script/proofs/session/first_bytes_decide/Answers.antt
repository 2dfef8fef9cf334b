use Rattle.script.proofs.FirstBytes.{by_first_bytes}
use Rattle.script.proofs.session.first_bytes_decide.Goals as goal

pub returns : goal.returns
returns c = by_first_bytes
