-- The words behind the first take no more than the line.
use Rattle.std.proofs.Common.{◌≡◌, drop, rules}
use Rattle.words.specs.Language.{texts}
use Rattle.words.specs.Meaning.{to_come}
use Rattle.commands.specs.Lines.{words_of}
use Rattle.commands.proofs.Rooms.{further_room}
use Rattle.commands.proofs.parsing.further.Goals as goal

pub returns-clause-inside : goal.returns-clause-inside
returns-clause-inside c =
    let same : texts (to_come c.next.new.self) ≡ drop 1 (words_of c.args.line.now) = search rules in
    rw same (further_room c.args.line.now)
