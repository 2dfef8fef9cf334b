use Rattle.std.proofs.Common.{◌≡◌, ℕ, ◌≤◌, ◌<◌, ◌++◌, ◌∷◌, [], length, sym, subst, refl, ap, ◌∙◌, ap₂, arith}
use Rattle.std.proofs.lemmas.Result.{err_from_is_err_and}
use Rattle.rules.specs.Beginnings.{places_in}
use Rattle.rules.specs.Entries.{listing}
use Rattle.rules.specs.Rules.{denial}
use Rattle.rules.specs.Searching.{span_of, HasAll}
use Rattle.rules.proofs.Beginning.{begins_choice, begins_long}
use Rattle.rules.proofs.Fews.{places_long}
use Rattle.rules.proofs.Growing.{whole_says, grown_none, grown_more, all_none, all_next, tried}
use Rattle.rules.proofs.search.Search.+extend.Goals as goal

pub returns-then-atom-atoms : goal.returns-then-atom-atoms
returns-then-atom-atoms g t c =
    let table = (g.S.Source.model c.args.self.now.source.now).places in
    let rule = c.args.self.now.rule.now in
    let begun = places_in c.args.chosen in
    let whole : length begun ≡ length (denial rule).atoms = places_long c.args.chosen ∙ sym c.len-atom.ensures.length ∙ c.if-atom-atoms.true ∙ ap length c.atoms.ensures in
    let choice = begins_choice table (denial rule) begun rule.named rule.some whole c.requires.begun.begun in
    whole_says c.args.self.now.scope (listing c.args.list.now) (listing c.enter.new.self) c.enter.result c.enter.ensures c.args.list.now.rising choice c.of.ensures whole

pub choose-requires-clause-room : goal.choose-requires-clause-room
choose-requires-clause-room g t c =
    let long = begins_long (g.S.Source.model c.args.self.now.source.now).places (denial c.args.self.now.rule.now) (places_in c.args.chosen) c.requires.begun.begun in
    omega (arith, long, places_long c.args.chosen, c.len-atom.ensures.length, ap length c.atoms.ensures, c.if-atom-atoms.false)

pub returns-in_err-extend : goal.returns-in_err-extend
returns-in_err-extend g t c =
    let p = err_from_is_err_and c.from_residual.result c.from_residual.ensures.1 in
    let told = c.in_err-extend.ensures in
    rw p.1 (grown_more c.loop-place.invariant.1 told.0, told.1, told.2)

pub loop-place-preserved : goal.loop-place-preserved
loop-place-preserved g t c =
    let (end, grown, before) = c.loop-place.invariant in
    let (still, (some, at, next)) = c.in-Some.ensures.steps in
    let begun = places_in c.args.chosen in
    let P : ℕ → Type 0 = λ n. (q : ℕ) → c.into_iter-place-iterator.result.start ≤ q → q < n → HasAll (g.S.Source.model c.args.self.now.source.now).places (denial c.args.self.now.rule.now) c.args.self.now.scope (begun ++ q ∷ []) (listing c.loop-place.list) in
    let (more, has) = tried c.args.self.now.scope begun c.into_iter-place-iterator.result.start c.loop-place.place-iterator.start (ap (λ q. begun ++ q ∷ []) at) refl grown before (grown_none (listing c.loop-place.list)) (all_none (listing c.loop-place.list) c.in_default.ensures) in
    (still ∙ end, more, subst P (sym next) has)

pub returns : goal.returns
returns g t c =
    let begun = places_in c.args.chosen in
    let long = begins_long (g.S.Source.model c.args.self.now.source.now).places (denial c.args.self.now.rule.now) begun c.requires.begun.begun in
    let of_picks = places_long c.args.chosen in
    let (end, grown, before) = c.loop-place.invariant in
    let span = c.span-place-items.ensures ∙ ap₂ (span_of c.args.self.now.scope) (c.len-atom.ensures.length ∙ sym of_picks) c.places.ensures in (
      grown,
      all_next c.args.self.now.scope begun _ span (omega (arith, long, of_picks, c.len-atom.ensures.length, ap length c.atoms.ensures, c.if-atom-atoms.false))
          (λ q low high. before q (omega (arith, low, ap (λ r. r.start) c.into_iter-place-iterator.ensures.into_iter_gives)) (omega (arith, high, c.in-None.ensures.steps.1.0, end, ap (λ r. r.end) c.into_iter-place-iterator.ensures.into_iter_gives))),
    )
