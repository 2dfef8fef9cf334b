use Rattle.std.proofs.Common.{map, length, sym}
use Rattle.std.proofs.lemmas.List.{length-map}
use Rattle.rules.specs.Rules.{denial}
use Rattle.rules.proofs.Undoing.{rule_kept, rule_undone}
use Rattle.rules.proofs.upkeep.add_rule.Goals as goal

pub returns-then-is_err : goal.returns-then-is_err
returns-then-is_err g c =
    let rules = c.args.rules.now in
    rule_undone (g.S.Source.model c.args.source.now).places (g.met.S.Source.keeps c.args.source.now).once (map denial rules) c.args.list.now c.run-added.new.list (denial c.args.rule.now) (length rules) (sym (length-map rules denial)) c.requires.exact
    c.drop_rule.new.self c.drop_rule.ensures c.run-added.result (sym c.if-is_err.ensures.value) c.run-added.ensures

pub returns-else-is_err : goal.returns-else-is_err
returns-else-is_err g c =
    let rules = c.args.rules.now in
    rule_kept (g.S.Source.model c.args.source.now).places (g.met.S.Source.keeps c.args.source.now).once (map denial rules) c.args.list.now c.run-added.new.list (denial c.args.rule.now) (length rules) (sym (length-map rules denial)) c.requires.exact
    c.run-added.result (sym c.if-is_err.ensures.value) c.run-added.ensures
