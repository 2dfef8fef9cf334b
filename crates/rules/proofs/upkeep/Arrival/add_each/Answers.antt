use Rattle.std.proofs.Common.{eqb, map, ◌∙◌, arith}
use Rattle.std.proofs.lemmas.List.{length-map}
use Rattle.std.proofs.lemmas.Result.{err_from_is_err_and}
use Rattle.std.proofs.lemmas.Bool.{not-false}
use Rattle.store.specs.Lists.{any}
use Rattle.rules.specs.Entries.{listing}
use Rattle.rules.specs.Rules.{denial}
use Rattle.rules.specs.Upkeep.{away_from}
use Rattle.rules.proofs.Completing.{one_further, half_way, over}
use Rattle.rules.proofs.Naming.{rule_at}
use Rattle.rules.proofs.Rounds.{round_ends}
use Rattle.rules.proofs.upkeep.Arrival.add_each.Goals as goal

pub returns-in_err-add_share : goal.returns-in_err-add_share
returns-in_err-add_share g c =
    let self = c.args.self.now in
    let table = (g.S.Source.model self.source.now).places in
    let once = (g.met.S.Source.keeps self.source.now).once in
    let rules = self.rules.now in
    let rule = c.rule-item.result in
    let k = c.loop-number.number in
    let at = rule_at rules k rule (omega arith) c.rule-item.is in
    let p = err_from_is_err_and c.from_residual.result c.from_residual.ensures.1 in
    let (grown, full, (d, found)) = c.in_err-add_share.ensures in
    let up = c.add_share.new.list.rising in
    rw p.1 (
      (k, half_way table once (map denial rules) (away_from self.place) k (omega (arith, length-map rules denial)) (denial rule) at c.loop-number.invariant grown up full d found),
      over table once (map denial rules) (away_from self.place) k (omega (arith, length-map rules denial)) (denial rule) at c.loop-number.invariant grown up full d found,
    )

pub loop-number-preserved : goal.loop-number-preserved
loop-number-preserved g c =
    let self = c.args.self.now in
    let table = (g.S.Source.model self.source.now).places in
    let once = (g.met.S.Source.keeps self.source.now).once in
    let rules = self.rules.now in
    let rule = c.rule-item.result in
    let k = c.loop-number.number in
    let p = self.place in
    let at = rule_at rules k rule (omega arith) c.rule-item.is in
    let (grown, all) = c.in_ok-add_share.ensures in
    one_further table once (map denial rules) (away_from p) k (omega (arith, length-map rules denial)) (denial rule) at c.loop-number.invariant grown c.add_share.new.list.rising
    (λ chosen places ch same fresh. all chosen ch (same p ∙ not-false (any (eqb p) places) fresh))

pub returns : goal.returns
returns g c =
    let self = c.args.self.now in
    let rules = self.rules.now in
    round_ends (g.S.Source.model self.source.now).places (map denial rules) (away_from self.place) c.loop-number.number (omega (arith, length-map rules denial)) (listing c.loop-number.list) c.loop-number.invariant
