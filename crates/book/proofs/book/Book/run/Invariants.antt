use Rattle.std.proofs.Common.{◌≡◌, length, map, take}
use Rattle.book.specs.Books.{rules_of}
use Rattle.book.specs.Calls.{StayZero}
use Rattle.book.specs.Outcomes.{asked_by, RunSays}
use Rattle.book.proofs.book.Book.run.Given as goal

abbrev pub invariant-loop-call : goal.invariant-loop-call
invariant-loop-call g l =
    let model = g.S.Source.model in
    (g.S.Source.anchor l.self.source ≡ g.S.Source.anchor l.initial.self.source)
    × ((model l.self.source).arity ≡ (model l.initial.self.source).arity)
    × RunSays (g.R.Recorder.told l.initial.recorder) (g.R.Recorder.told l.recorder) (map (asked_by (length l.initial.marks) (length l.initial.core) (length l.initial.lines)) (take l.call-index l.calls)) (model l.initial.self.source) (rules_of l.initial.self.log) (model l.self.source) (rules_of l.self.log)
    × StayZero l.initial.marks l.marks
