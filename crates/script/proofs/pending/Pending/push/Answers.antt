use Rattle.std.proofs.Common.{[], ◌∷◌, ◌++◌, sym, ◌∙◌, arith}
use Rattle.std.proofs.lemmas.List.{take_all, take-append-le, length_push}
use Rattle.script.specs.Gathering.{gathered}
use Rattle.script.proofs.pending.Pending.push.Goals as goal

pub returns-then-len-lt201 : goal.returns-then-len-lt201
returns-then-len-lt201 c =
    let bytes = gathered c.args.self.now in
    c.push.ensures ∙ sym (take_all 201 (bytes ++ c.args.byte ∷ []) (omega (arith, length_push bytes c.args.byte, c.len.ensures.length)))

pub returns-else-len-lt201 : goal.returns-else-len-lt201
returns-else-len-lt201 c =
    let bytes = gathered c.args.self.now in
    sym (take-append-le 201 bytes (c.args.byte ∷ []) (omega (arith, c.len.ensures.length)) ∙ take_all 201 bytes (omega (arith, c.len.ensures.length, c.len.ensures.within)))
