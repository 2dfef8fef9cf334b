use Rattle.std.proofs.Common.{rules}
use Rattle.std.specs.Str.{bytes_eq}
use Rattle.store.proofs.Firsts.{first_from_position}
use Rattle.store.proofs.Looked.{found}
use Rattle.page.specs.Sources.{page_model}
use Rattle.page.proofs.Looks.{first_row}
use Rattle.page.proofs.source.PageSource.find.Goals as goal

pub returns : goal.returns
returns c =
    let p = c.args.self.now in
    let of_row = c.encode_row-sought.ensures in
    found (page_model p) _ _ (first_row p.bytes.now _ c.records_in.ensures _ p.whole c.args.row.now _ of_row.bytes of_row.back
    (first_from_position (λ r. bytes_eq r c.encode_row-sought.result) _ c.position.ensures.ran c.iter.ensures.rest (λ x b q k. search rules)))
