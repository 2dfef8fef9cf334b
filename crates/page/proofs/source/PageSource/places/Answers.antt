use Rattle.std.proofs.Common.{length, sym, ap, ◌∙◌}
use Rattle.page.proofs.Chunks.{length_records}
use Rattle.page.proofs.Pages.{length_places}
use Rattle.page.proofs.source.PageSource.places.Goals as goal

pub returns : goal.returns
returns c = let bytes = c.args.self.now.bytes.now in ap length c.records_in.ensures ∙ length_records bytes ∙ sym (length_places bytes)
