-- What a caller draws from the promises when its list ascends. Assumes nothing.
use Rattle.std.proofs.Common.{◌≡◌, ℕ, ◌<◌, min, Bool, true, List, ◌++◌, length, take, Ordering, sym, ap, ◌∙◌, arith}
use Rattle.std.proofs.lemmas.List.{length-take, length-take-le, take-append-drop}
use Rattle.std.specs.Cmp.{IsTotalOrder}
use Rattle.ordered.specs.Order.{rises, listed, entered}
use Rattle.ordered.specs.Promises.{Enters, Refuses, Retains}
use Rattle.ordered.proofs.Ascending.{rises_kept_by}
use Rattle.ordered.proofs.Capped.{take_capped}
use Rattle.ordered.proofs.Entering.{entered_listed, length_entered}

module _ {X : Type 0} {order : X → X → Ordering} {x : X} {front items after : List X} (up : rises order front ≡ true) where
  -- the count that `enter` tells is the length of the list
  pub entered_count : {n : ℕ} → length after ≡ length items → Enters order x front items after n → n ≡ length (entered order x front)
  entered_count {n} long h = sym (length-take-le n after (omega (arith, h.within))) ∙ ap length (h.list up)

  -- it refuses where the list with x is longer than the slice
  pub no_room : Refuses order x front items after → length items < length (entered order x front)
  no_room h = omega (arith, h.full, length_entered order x front (h.absent up))

-- an equal element entered again alters nothing
pub unaltered : {X : Type 0} {order : X → X → Ordering} {x : X} {items after : List X} {n : ℕ} → IsTotalOrder order → (count : ℕ) → rises order (take count items) ≡ true → listed order x (take count items) ≡ true → length after ≡ length items → Enters order x (take count items) items after n → after ≡ items
unaltered {X} {order} {x} {items} {after} {n} laws count up old long h =
    let same = entered_listed laws x (take count items) up old in
    let told : n ≡ min count (length items) = entered_count up long h ∙ ap length same ∙ length-take count items in
    let front = h.list up ∙ same ∙ sym (take_capped n count items told) in
    sym (take-append-drop n after) ∙ (λ i. front i ++ h.rest i) ∙ take-append-drop n items

-- what `retain` leaves of a list that ascends ascends
pub retained_rises : {X : Type 0} (order : X → X → Ordering) {passes : X → Bool} {front items after : List X} {n : ℕ} → rises order front ≡ true → Retains passes front items after n → rises order (take n after) ≡ true
retained_rises order {passes} {front} up h = ap (rises order) h.list ∙ rises_kept_by order passes front up
