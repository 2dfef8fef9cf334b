-- The list of conflicts after one is entered or some are taken out.
use Rattle.std.proofs.Common.{◌≡◌, Bool, true, List, map, filter, Ordering, MatchResult, Ok, Err, Result, sym, ap, ◌∙◌}
use Rattle.std.proofs.lemmas.List.{length-map}
use Rattle.ordered.specs.Lists.{Takes, Bars}
use Rattle.ordered.specs.Order.{rises}
use Rattle.ordered.specs.declared.entry.Full.{Full}
use Rattle.ordered.proofs.Ascending.{rises_kept_by}
use Rattle.rules.specs.Entries.{EnterSays}
use Rattle.rules.specs.Listing.{Listed}
use Rattle.rules.specs.Views.{listed_as, by_places}
use Rattle.rules.specs.declared.conflict.Conflict.{Conflict}
use Rattle.rules.proofs.Mapping.{map_kept, rises_map, listed_map, entered_map}

abbrev in_order : Conflict → Conflict → Ordering
in_order a b = by_places (listed_as a) (listed_as b)

abbrev told : List Conflict → List Listed
told items = map listed_as items

module _ (test : Listed → Bool) (before after : List Conflict) (kept : after ≡ filter (λ c. test (listed_as c)) before) where
  pub kept_list : told after ≡ filter test (told before)
  kept_list = ap told kept ∙ map_kept listed_as test before

  pub kept_rises : rises by_places (told before) ≡ true → rises by_places (told after) ≡ true
  kept_rises up = ap (rises by_places) kept_list ∙ rises_kept_by by_places test (told before) up

in_order_rises : (l : List Conflict) → rises by_places (told l) ≡ true → rises in_order l ≡ true
in_order_rises l up = rises_map listed_as by_places l ∙ up

module _ (c : Conflict) (before after : List Conflict) (up : rises by_places (told before) ≡ true) where
  abbrev Told : Result Unit Full → Type 0
  Told r = MatchResult r (λ _. Takes in_order c before after) (λ _. Bars in_order c before after 1024)

  pub entered_rises : (r : Result Unit Full) → Told r → rises by_places (told after) ≡ true
  entered_rises (Ok done) h = sym (rises_map listed_as by_places after) ∙ h.rising (in_order_rises before up)
  entered_rises (Err full) h = ap (λ l. rises by_places (told l)) h.same ∙ up

  pub enter_says : (r : Result Unit Full) → Told r → EnterSays (listed_as c) (told before) (told after) r
  enter_says (Ok done) h = ap told (h.list (in_order_rises before up)) ∙ entered_map listed_as by_places c before
  enter_says (Err full) h = (ap told h.same, length-map before listed_as ∙ h.full, sym (listed_map listed_as by_places c before) ∙ h.absent (in_order_rises before up))
