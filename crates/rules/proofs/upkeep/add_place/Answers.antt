use Rattle.std.proofs.Common.{map, set, None, sym, subst}
use Rattle.rules.specs.Entries.{listing}
use Rattle.rules.specs.Listing.{Lists, is_conflict}
use Rattle.rules.specs.Rules.{denial}
use Rattle.rules.proofs.Completing.{fits_list}
use Rattle.rules.proofs.Emptied.{emptied, others_alike, empty_already}
use Rattle.rules.proofs.OnePlace.{put_starts}
use Rattle.rules.proofs.Undoing.{place_kept, place_undone}
use Rattle.rules.proofs.upkeep.add_place.Goals as goal

pub returns-in_default : goal.returns-in_default
returns-in_default g c =
    let table = (g.S.Source.model c.args.source.now).places in
    let once = (g.met.S.Source.keeps c.args.source.now).once in
    let rules = map denial c.args.rules.now in
    let list = c.args.list.now in
    let exact = subst (λ t. Lists (is_conflict t rules) (listing list)) (empty_already table c.args.place (sym c.in_default.ensures)) c.requires.exact in
    (exact, fits_list table once rules list exact)

pub add_each-added-requires : goal.add_each-added-requires
add_each-added-requires g c =
    let table = (g.S.Source.model c.args.source.now).places in
    let p = c.args.place in
    record { others = put_starts (set table p None) table p (others_alike table p) (emptied table p) (map denial c.args.rules.now) (listing c.args.list.now) c.requires.exact }

pub returns-then-is_err : goal.returns-then-is_err
returns-then-is_err g c =
    place_undone (g.S.Source.model c.args.source.now).places (g.met.S.Source.keeps c.args.source.now).once (map denial c.args.rules.now) c.args.list.now c.add_each-added.new.list c.args.place c.requires.exact
    c.drop_place.new.self c.drop_place.ensures c.add_each-added.result (sym c.if-is_err.ensures.value) c.add_each-added.ensures

pub returns-else-is_err : goal.returns-else-is_err
returns-else-is_err g c =
    place_kept (g.S.Source.model c.args.source.now).places (g.met.S.Source.keeps c.args.source.now).once (map denial c.args.rules.now) c.args.list.now c.add_each-added.new.list c.args.place c.requires.exact
    c.add_each-added.result (sym c.if-is_err.ensures.value) c.add_each-added.ensures
