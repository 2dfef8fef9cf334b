-- `any` asks each record.
use Rattle.std.proofs.Common.{rules}
use Rattle.std.proofs.lemmas.Iterator.{YieldsList-from_slice}
use Rattle.std.proofs.lemmas.Iterator.Search.{any_from_yields_List}
use Rattle.std.specs.Str.{bytes_eq}
use Rattle.page.proofs.checking.is_among.Goals as goal

pub returns : goal.returns
returns c =
    let this = c.args.record.now in
    any_from_yields_List (λ r. bytes_eq r this) _ _ c.any.result c.any.ensures.ran (YieldsList-from_slice c.args.records.now c.iter.ensures.rest) (λ x b q k. search rules)
