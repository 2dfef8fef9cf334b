use Rattle.std.proofs.Common.{map, sym, ap, ◌∙◌}
use Rattle.rules.specs.Beginnings.{places_in, begins}
use Rattle.rules.specs.Entries.{listing}
use Rattle.rules.specs.Listing.{rows_at}
use Rattle.rules.specs.Rules.{denial}
use Rattle.rules.specs.declared.chosen.Pick.{Pick}
use Rattle.rules.proofs.Beginning.{begins_none}
use Rattle.rules.proofs.Growing.{find_says}
use Rattle.rules.proofs.search.Search.run.Goals as goal

pub extend-requires : goal.extend-requires
extend-requires g c =
    let table = (g.S.Source.model c.args.self.now.source.now).places in
    let rule = denial c.args.self.now.rule.now in
    let none = ap (map (λ (x : Pick). x.place)) c.new.ensures in
    record { begun = record { rows = ap (map (λ (x : Pick). x.row)) c.new.ensures ∙ sym (ap (rows_at table) none); begun = ap (begins table rule) none ∙ begins_none table rule } }

pub returns : goal.returns
returns g c =
    let self = c.args.self.now in
    find_says (g.S.Source.model self.source.now).places (denial self.rule.now) self.scope self.number (places_in c.new.result) (listing c.args.list.now) (listing c.extend.new.list)
    c.extend.result (ap (map (λ (x : Pick). x.place)) c.new.ensures) c.extend.ensures
