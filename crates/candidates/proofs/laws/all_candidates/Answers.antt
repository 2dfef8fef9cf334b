use Rattle.candidates.proofs.Candidates.{all_candidates}
use Rattle.candidates.proofs.laws.all_candidates.Goals as goal

pub returns : goal.returns
returns c = all_candidates
