-- The same where the conflicts are listed as those of some rules.
use Rattle.std.proofs.Common.{◌≡◌, true, List, map, sym, ap, ◌∙◌, subst}
use mathlib.Core.List.Memᴰ
use Rattle.std.proofs.lemmas.Simd.{map-map}
use Rattle.store.specs.Held.{rows_of}
use Rattle.store.specs.Store.{Store}
use Rattle.rules.specs.Listing.{Listed, Lists, rows_at, is_conflict}
use Rattle.rules.specs.Readings.{reading}
use Rattle.rules.specs.Rules.{Denial, conflicts}
use Rattle.rules.specs.Sets.{Rows}
use Rattle.rules.proofs.OnePlace.{conflict_parts}
use Rattle.rules.proofs.ReadBy.{same_readings}
use Rattle.cores.specs.Backing.{all_held, HeldIn}
use Rattle.cores.specs.Settling.{listed_places}
use Rattle.cores.specs.Laws.{SureByRules, CoreByRules}
use Rattle.cores.proofs.Surely.{sure_by_places}
use Rattle.cores.proofs.Coring.{core_by_places}

module _ (s : Store) (rules : List Denial) (listed : List Listed) (lists : Lists (is_conflict s.places rules) listed) where
  pub listed_held : HeldIn s.places (listed_places listed)
  listed_held places m =
      let (c, n, e) = Memᴰ.of_map (λ c. c.places) listed m in
      subst (λ x. all_held s.places x ≡ true) e (conflict_parts s.places rules c (lists.right c n)).1

  -- the readings by the listed places are the readings by the rules
  pub by_listed : (R : Rows) → reading (rows_of s.places) (map (rows_at s.places) (listed_places listed)) R ≡ reading (rows_of s.places) (conflicts (rows_of s.places) rules) R
  by_listed R = ap (λ C. reading (rows_of s.places) C R) (map-map (rows_at s.places) (λ c. c.places) listed) ∙ same_readings s.places rules listed lists R

pub sure_by_rules : SureByRules
sure_by_rules s once rules listed lists plan columns leaves at none R ok =
    sure_by_places s once (listed_places listed) (listed_held s rules listed lists) plan columns leaves at none R (by_listed s rules listed lists R ∙ ok)

pub core_by_rules : CoreByRules
core_by_rules s once rules listed lists small plan columns leaves at B w places same apart =
    let core = core_by_places s once (listed_places listed) (listed_held s rules listed lists) small plan columns leaves at B w places same apart in
    let (R, ok, has) = core.some in
    record {
      few = core.few;
      once = core.once;
      held = core.held;
      some = (R, sym (by_listed s rules listed lists R) ∙ ok, has);
      none = λ R ok has. core.none R (by_listed s rules listed lists R ∙ ok) has;
    }
