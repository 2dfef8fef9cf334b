use Rattle.std.proofs.Common.{◌≡◌, ℕ, get_or, List, length, map, take, sym, ap, ◌∙◌, subst, ap₂, arith}
use Rattle.std.proofs.lemmas.List.{map_more, take_all}
use Rattle.book.specs.Books.{rules_of}
use Rattle.book.specs.Outcomes.{asked_by, told_of, RunSays}
use Rattle.book.specs.Plain.{Asked}
use Rattle.book.specs.Runs.{LivesOn}
use Rattle.book.specs.declared.call.Call.{Call}
use Rattle.book.proofs.Marks.{stay_zero}
use Rattle.book.proofs.Running.{one_more}
use Rattle.book.proofs.book.Book.run.Goals as goal

pub loop-call-preserved : goal.loop-call-preserved
loop-call-preserved g c =
    let b = c.args.self.now in
    let so = c.loop-call.invariant in
    let step = c.step-outcome.ensures in
    let model = g.S.Source.model in
    let told = g.R.Recorder.told in
    let calls = c.args.calls.now in
    let i = c.loop-call.call-index in
    let item = c.call-item.result in
    let asks = asked_by (length c.args.marks.now) (length c.args.core.now) (length c.args.lines.now) in
    let more = map_more asks calls i item c.loop-call-test.true in
    let lent : asked_by (length c.loop-call.marks) (length c.loop-call.core) (length c.loop-call.lines) item ≡ asks (get_or calls i item) = ap₂ (λ (m n : ℕ). asked_by m n (length c.loop-call.lines) item) (omega arith) (omega arith) ∙ ap (λ (k : ℕ). asked_by (length c.args.marks.now) (length c.args.core.now) k item) (omega arith) ∙ ap asks c.call-item.is in
    let law = subst (λ (a : Asked). LivesOn (model c.loop-call.self.source) (rules_of c.loop-call.self.log) (model c.step-outcome.new.self.source) (rules_of c.step-outcome.new.self.log) a (told_of c.step-outcome.new.core c.step-outcome.new.lines c.step-outcome.result)) lent step.law in (
      step.anchor ∙ so.0,
      step.arity ∙ so.1,
      subst (λ (askeds : List Asked). RunSays (told c.args.recorder.now) (told c.record.new.self) askeds (model b.source) (rules_of b.log) (model c.step-outcome.new.self.source) (rules_of c.step-outcome.new.self.log)) (sym more)
          (one_more (told c.args.recorder.now) (told c.loop-call.recorder) (told c.record.new.self) (map asks (take i calls))
          (model b.source) (model c.loop-call.self.source) (model c.step-outcome.new.self.source) (rules_of b.log) (rules_of c.loop-call.self.log) (rules_of c.step-outcome.new.self.log)
          (asks (get_or calls i item)) (told_of c.step-outcome.new.core c.step-outcome.new.lines c.step-outcome.result) so.2 law c.record.ensures),
      stay_zero (asked_by (length c.loop-call.marks) (length c.loop-call.core) (length c.loop-call.lines) item) c.args.marks.now c.loop-call.marks c.step-outcome.new.marks so.3 step.marks,
    )

pub returns-clause-law : goal.returns-clause-law
returns-clause-law g c =
    let b = c.args.self.now in
    let whole = take_all c.loop-call.call-index c.args.calls.now (omega arith) in
    subst (λ (calls : List Call). RunSays (g.R.Recorder.told c.args.recorder.now) (g.R.Recorder.told c.loop-call.recorder) (map (asked_by (length c.args.marks.now) (length c.args.core.now) (length c.args.lines.now)) calls) (g.S.Source.model b.source) (rules_of b.log) (g.S.Source.model c.loop-call.self.source) (rules_of c.loop-call.self.log)) whole c.loop-call.invariant.2
