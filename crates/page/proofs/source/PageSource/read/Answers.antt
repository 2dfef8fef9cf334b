use Rattle.std.proofs.Common.{ℕ, List, [], length, get_or, None, sym, ap, ◌∙◌, arith}
use Rattle.std.proofs.lemmas.List.{get_or_past}
use Rattle.page.specs.Pages.{places_of}
use Rattle.page.specs.Records.{place_of}
use Rattle.page.proofs.Chunks.{length_records}
use Rattle.page.proofs.Pages.{length_places, place_at}
use Rattle.page.proofs.source.PageSource.read.Goals as goal

pub returns : goal.returns
returns c =
    let bytes = c.args.self.now.bytes.now in
    let place = c.args.place in
    c.decode.ensures ∙ ap place_of (c.in_ok-get.ensures.lookup.3.1 []) ∙ ap (λ (records : List (List ℕ)). place_of (get_or records place [])) c.records_in.ensures ∙ sym (place_at bytes place)

pub returns-in_err-get : goal.returns-in_err-get
returns-in_err-get c =
    let bytes = c.args.self.now.bytes.now in
    c.from_residual.ensures
    ∙ sym (get_or_past (places_of bytes) c.args.place None (omega (arith, c.in_err-get.ensures.lookup.3, ap length c.records_in.ensures, length_records bytes, length_places bytes)))
