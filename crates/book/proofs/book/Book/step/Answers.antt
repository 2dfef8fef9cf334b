use Rattle.std.proofs.Common.{◌≡◌, length, ◌++◌, min, take, drop, sym, ap, ◌∙◌, subst, ap₂, arith, rules}
use Rattle.std.proofs.lemmas.List.{length-take}
use Rattle.plan.specs.Plans.{nodes_of}
use Rattle.book.specs.Books.{rules_of}
use Rattle.book.specs.Calls.{StepSays, judged_by, listed_by, ruled_by}
use Rattle.book.specs.Outcomes.{asked_by}
use Rattle.book.specs.Plain.{Asked, Told, judging, listing}
use Rattle.book.specs.Runs.{LivesOn}
use Rattle.book.proofs.Lent.{judged_told, judged_step, listed_told, listed_step}
use Rattle.book.proofs.Told.{ruled_told}
use Rattle.book.proofs.book.Book.step.Given as given
use Rattle.book.proofs.book.Book.step.Goals as goal

pub returns-in-Rule-clause-law : goal.returns-in-Rule-clause-law
returns-in-Rule-clause-law g c =
    let b = c.args.self.now in
    let after = c.rule.new.self in
    let s = g.S.Source.model b.source in
    let s' = g.S.Source.model after.source in
    let lives = subst (λ (a : Asked). LivesOn s (rules_of b.log) s' (rules_of after.log) a (ruled_by c.rule.result)) (ap (asked_by (length c.args.marks.now) (length c.args.core.now) (length c.args.lines.now)) (sym c.in-Rule.is)) c.rule.ensures.law in
    subst (λ (t : Told). LivesOn s (rules_of b.log) s' (rules_of after.log) (asked_by (length c.args.marks.now) (length c.args.core.now) (length c.args.lines.now) c.args.call) t) (ruled_told c.args.core.now c.args.lines.now c.rule.result c.map-in-Rule.result _ (λ n d k. search rules) c.map-in-Rule.ensures.cases) lives

-- a verdict is lent the front of the caller's
module _ (g : given.Over) (c : goal.After-map-in-Verdict g) where
  long : length c.verdict.new.core ≡ c.min-rows.result
  long =
      let rows : c.min-rows.result ≡ min c.in-Verdict.rows (length c.args.core.now) = c.min-rows.ensures in
      let kept : length c.verdict.new.core ≡ length (take c.min-rows.result c.args.core.now) = c.verdict.auto.core in
      omega (arith, kept, rows, length-take c.min-rows.result c.args.core.now)

  asked : judging (nodes_of c.in-Verdict.plan.now) c.in-Verdict.line.columns (length (take c.min-bytes.result c.args.marks.now)) c.min-rows.result ≡
      asked_by (length c.args.marks.now) (length c.args.core.now) (length c.args.lines.now) c.args.call
  asked =
      let bytes : c.min-bytes.result ≡ min c.in-Verdict.bytes (length c.args.marks.now) = c.min-bytes.ensures in
      let size : length (take c.min-bytes.result c.args.marks.now) ≡ min c.in-Verdict.bytes (length c.args.marks.now) = omega (arith, bytes, length-take c.min-bytes.result c.args.marks.now) in
      ap₂ (judging (nodes_of c.in-Verdict.plan.now) c.in-Verdict.line.columns) size c.min-rows.ensures ∙ ap (asked_by (length c.args.marks.now) (length c.args.core.now) (length c.args.lines.now)) (sym c.in-Verdict.is)

pub returns-in-Verdict-clause-says : goal.returns-in-Verdict-clause-says
returns-in-Verdict-clause-says g c =
    let b = c.args.self.now in
    let s = g.S.Source.model b.source in
    let core = c.args.core.now in
    let n = c.min-rows.result in
    subst (λ (a : Asked). StepSays s (rules_of b.log) s (rules_of b.log) core (c.verdict.new.core ++ drop n core) c.args.lines.now c.args.lines.now a c.map-in-Verdict.result) (asked g c)
    (judged_step s (rules_of b.log) (nodes_of c.in-Verdict.plan.now) c.in-Verdict.line.columns _ n core c.verdict.new.core c.args.lines.now (long g c)
    c.verdict.result c.map-in-Verdict.result _ (λ v d k. search rules) c.map-in-Verdict.ensures.cases c.verdict.ensures.says)

pub returns-in-Verdict-clause-law : goal.returns-in-Verdict-clause-law
returns-in-Verdict-clause-law g c =
    let b = c.args.self.now in
    let s = g.S.Source.model b.source in
    let core = c.args.core.now in
    let n = c.min-rows.result in
    let told = judged_told s (rules_of b.log) (nodes_of c.in-Verdict.plan.now) c.in-Verdict.line.columns _ n core c.verdict.new.core c.args.lines.now (long g c)
    c.verdict.result c.map-in-Verdict.result _ (λ v d k. search rules) c.map-in-Verdict.ensures.cases c.verdict.ensures.says in
    let room : length (take n core) ≡ n = sym c.verdict.auto.core ∙ long g c in
    let asks = ap (judging (nodes_of c.in-Verdict.plan.now) c.in-Verdict.line.columns (length (take c.min-bytes.result c.args.marks.now))) room ∙ asked g c in
    subst (λ (t : Told). LivesOn s (rules_of b.log) s (rules_of b.log) (asked_by (length c.args.marks.now) (length core) (length c.args.lines.now) c.args.call) t) told
    (subst (λ (a : Asked). LivesOn s (rules_of b.log) s (rules_of b.log) a (judged_by c.verdict.new.core c.verdict.result)) asks c.verdict.ensures.law)

-- and so is a sheet
module _ (g : given.Over) (c : goal.After-map-in-Sheet g) where
  long_lines : length c.sheet.new.lines ≡ c.min-room.result
  long_lines =
      let room : c.min-room.result ≡ min c.in-Sheet.room (length c.args.lines.now) = c.min-room.ensures in
      let kept : length c.sheet.new.lines ≡ length (take c.min-room.result c.args.lines.now) = c.sheet.auto.lines in
      omega (arith, kept, room, length-take c.min-room.result c.args.lines.now)

  asked_sheet : listing (nodes_of c.in-Sheet.plan.now) (length (take c.min-size.result c.args.marks.now)) c.min-room.result ≡
      asked_by (length c.args.marks.now) (length c.args.core.now) (length c.args.lines.now) c.args.call
  asked_sheet =
      let size : c.min-size.result ≡ min c.in-Sheet.size (length c.args.marks.now) = c.min-size.ensures in
      let whole : length (take c.min-size.result c.args.marks.now) ≡ min c.in-Sheet.size (length c.args.marks.now) = omega (arith, size, length-take c.min-size.result c.args.marks.now) in
      ap₂ (listing (nodes_of c.in-Sheet.plan.now)) whole c.min-room.ensures ∙ ap (asked_by (length c.args.marks.now) (length c.args.core.now) (length c.args.lines.now)) (sym c.in-Sheet.is)

pub returns-in-Sheet-clause-says : goal.returns-in-Sheet-clause-says
returns-in-Sheet-clause-says g c =
    let b = c.args.self.now in
    let s = g.S.Source.model b.source in
    let core = c.args.core.now in
    let lines = c.args.lines.now in
    let n = c.min-room.result in
    subst (λ (a : Asked). StepSays s (rules_of b.log) s (rules_of b.log) core core lines (c.sheet.new.lines ++ drop n lines) a c.map-in-Sheet.result) (asked_sheet g c)
    (listed_step s (rules_of b.log) (nodes_of c.in-Sheet.plan.now) _ n core lines c.sheet.new.lines (long_lines g c)
    c.sheet.result c.map-in-Sheet.result _ (λ k d h. search rules) c.map-in-Sheet.ensures.cases c.sheet.ensures.says)

pub returns-in-Sheet-clause-law : goal.returns-in-Sheet-clause-law
returns-in-Sheet-clause-law g c =
    let b = c.args.self.now in
    let s = g.S.Source.model b.source in
    let core = c.args.core.now in
    let lines = c.args.lines.now in
    let n = c.min-room.result in
    let told = listed_told s (rules_of b.log) (nodes_of c.in-Sheet.plan.now) _ n core lines c.sheet.new.lines (long_lines g c)
    c.sheet.result c.map-in-Sheet.result _ (λ k d h. search rules) c.map-in-Sheet.ensures.cases c.sheet.ensures.says in
    let room : length (take n lines) ≡ n = sym c.sheet.auto.lines ∙ long_lines g c in
    let asks = ap (listing (nodes_of c.in-Sheet.plan.now) (length (take c.min-size.result c.args.marks.now))) room ∙ asked_sheet g c in
    subst (λ (t : Told). LivesOn s (rules_of b.log) s (rules_of b.log) (asked_by (length c.args.marks.now) (length core) (length lines) c.args.call) t) told
    (subst (λ (a : Asked). LivesOn s (rules_of b.log) s (rules_of b.log) a (listed_by c.sheet.new.lines c.sheet.result)) asks c.sheet.ensures.law)
