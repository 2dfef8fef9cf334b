-- From the place that a search tells to the whole list. Assumes nothing.
use Rattle.std.proofs.Common.{◌≡◌, ℕ, zero, suc, ◌-◌, ◌<◌, ◌≤◌, true, false, List, [], ◌∷◌, length, get_or, Ordering, Less, Greater, sym, refl, ap, ◌∙◌, ⊎_elim, arith}
use Rattle.std.specs.List.{insert}
use Rattle.std.specs.Ordering.{is_eq}
use Rattle.std.proofs.lemmas.List.Edits.{length-insert}
use Rattle.std.proofs.lemmas.Bool.{or_left, or_right, cases_lt, cases_Bool}
use Rattle.std.specs.Cmp.{IsTotalOrder}
use Rattle.ordered.specs.Order.{rises, listed, pick, entered}
use Rattle.ordered.specs.Promises.{Stands, Belongs}
use Rattle.ordered.proofs.Ascending.{rising_from_rises}
use Rattle.ordered.proofs.Comparing.{turned}
use Rattle.ordered.proofs.Entering.{entered_listed}

module _ {X : Type 0} (order : X → X → Ordering) where
  -- x is in the list if it stands somewhere
  pub listed_from_stands : (xs : List X) (x : X) (i : ℕ) → Stands order xs x i → listed order x xs ≡ true
  listed_from_stands [] x i h = absurd (omega arith)
  listed_from_stands (y ∷ ys) x zero h = or_left _ _ (ap is_eq h.equal)
  listed_from_stands (y ∷ ys) x (suc i) h = or_right _ _ (listed_from_stands ys x i (record { within = omega arith; equal = h.equal }))

  entered_between : (xs : List X) (x : X) (i : ℕ) → i ≤ length xs → ((k : ℕ) → k < i → order (get_or xs k x) x ≡ Less) → ((k : ℕ) → i ≤ k → k < length xs → order (get_or xs k x) x ≡ Greater) → entered order x xs ≡ insert xs i x
  entered_between [] x zero le f g = refl
  entered_between [] x (suc i) le f g = absurd (omega arith)
  entered_between (y ∷ ys) x zero le f g = ap (λ o. pick o (y ∷ entered order x ys) (y ∷ ys) (x ∷ y ∷ ys)) (g 0 (omega arith) (omega arith))
  entered_between (y ∷ ys) x (suc i) le f g =
      ap (λ o. pick o (y ∷ entered order x ys) (y ∷ ys) (x ∷ y ∷ ys)) (f 0 (omega arith))
      ∙ ap (λ l. y ∷ l) (entered_between ys x i (omega arith) (λ k lt. f (suc k) (omega arith)) (λ k h lt. g (suc k) (omega arith) (omega arith)))

module _ {X : Type 0} {order : X → X → Ordering} (laws : IsTotalOrder order) (xs : List X) (x : X) (i : ℕ) (up : rises order xs ≡ true) (h : Belongs order xs x i) where
  -- in a list that ascends, all that stand before the place are before x ..
  pub before_place : (k : ℕ) → k < i → order (get_or xs k x) x ≡ Less
  before_place k lt = ⊎_elim
      (λ less. laws.trans (get_or xs k x) (get_or xs (i - 1) x) x (rising_from_rises order xs up k (i - 1) x less (omega arith)) (h.left (omega arith)))
      (λ le. let same : k ≡ i - 1 = omega arith in rw same (h.left (omega arith)))
      (cases_lt k (i - 1))

  -- .. and all that stand from it on are after x
  pub from_place : (k : ℕ) → i ≤ k → k < length xs → order (get_or xs k x) x ≡ Greater
  from_place k le lt = ⊎_elim
      (λ less. turned laws x (get_or xs k x) Less (laws.trans x (get_or xs i x) (get_or xs k x) (turned laws (get_or xs i x) x Greater (h.right (omega arith))) (rising_from_rises order xs up i k x less lt)))
      (λ ge. let same : k ≡ i = omega arith in rw same (h.right (omega arith)))
      (cases_lt i k)

  pub entered_from_belongs : entered order x xs ≡ insert xs i x
  entered_from_belongs = entered_between order xs x i h.within before_place from_place

  -- x is not in a list in which it belongs somewhere
  pub unlisted_from_belongs : listed order x xs ≡ false
  unlisted_from_belongs = ⊎_elim
      (λ old. absurd (omega (arith, length-insert xs i x h.within, ap length (sym (entered_from_belongs) ∙ entered_listed laws x xs up old))))
      (λ new. new)
      (cases_Bool (listed order x xs))
