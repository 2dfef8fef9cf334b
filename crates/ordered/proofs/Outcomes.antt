-- What `enter` leaves, from what `find` told and what `insert` did. Assumes nothing.
use Rattle.std.proofs.Common.{◌≡◌, ℕ, ◌≤◌, List, length, take, drop, Ordering, sym, refl, ap, ◌∙◌}
use Rattle.std.specs.List.{insert}
use Rattle.std.specs.Cmp.{IsTotalOrder}
use Rattle.ordered.specs.Order.{rises}
use Rattle.ordered.specs.Promises.{Stands, Belongs, Enters, Refuses}
use Rattle.ordered.proofs.Entering.{entered_listed, rises_entered}
use Rattle.ordered.proofs.Placing.{listed_from_stands, entered_from_belongs, unlisted_from_belongs}

module _ {X : Type 0} {order : X → X → Ordering} (laws : IsTotalOrder order) {x : X} {items : List X} {place : ℕ} where
  -- an equal element stands in the list
  pub again : (n : ℕ) → n ≤ length items → Stands order (take n items) x place → Enters order x (take n items) items items n
  again n le at = record {
    within = le;
    list = λ up. sym (entered_listed laws x (take n items) up (listed_from_stands order (take n items) x place at));
    rising = λ up. up;
    rest = refl;
  }

  -- the element was put in where it belongs
  pub added : {front after : List X} (n : ℕ) → take n after ≡ insert front place x → drop n after ≡ drop n items → n ≤ length items → Belongs order front x place → Enters order x front items after n
  added {front} n is rest le at = record {
    within = le;
    list = λ up. is ∙ sym (entered_from_belongs laws front x place up at);
    rising = λ up. ap (rises order) (is ∙ sym (entered_from_belongs laws front x place up at)) ∙ rises_entered laws x front up;
    rest = rest;
  }

  pub refused : {front : List X} → length front ≡ length items → Belongs order front x place → Refuses order x front items items
  refused {front} full at = record { full = full; absent = λ up. unlisted_from_belongs laws front x place up at; same = refl }
