use Rattle.page.specs.Pages.{records_of}
use Rattle.page.proofs.record.records_in.Goals as goal

pub returns : goal.returns
unfolding records_of
returns c = c.as_chunks.ensures.front
