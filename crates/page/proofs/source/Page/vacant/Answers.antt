use Rattle.std.proofs.Common.{not, rules}
use Rattle.store.proofs.Firsts.{first_from_position}
use Rattle.store.proofs.Looked.{vacant_at}
use Rattle.page.specs.Pages.{places_of}
use Rattle.page.specs.Records.{marks_row}
use Rattle.page.proofs.Looks.{first_empty}
use Rattle.page.proofs.source.Page.vacant.Goals as goal

pub returns : goal.returns
returns c =
    let bytes = c.args.self.now.bytes.now in
    vacant_at (places_of bytes) _ (first_empty bytes _ c.records_in.ensures _ (first_from_position (λ r. not (marks_row r)) _ c.position.ensures.ran c.iter.ensures.rest (λ x b q k. search rules)))
