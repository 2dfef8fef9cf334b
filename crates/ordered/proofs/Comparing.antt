-- What the laws of an order give. Assumes nothing.
use Rattle.std.proofs.Common.{◌≡◌, Ordering, Less, sym, ap, ◌∙◌, true≢false}
use Rattle.std.specs.Ordering.{ordering_reverse, is_lt}
use Rattle.std.specs.Cmp.{IsTotalOrder}

module _ {X : Type 0} {order : X → X → Ordering} (laws : IsTotalOrder order) where
  -- the answer the other way round
  pub turned : (x y : X) (o : Ordering) → order x y ≡ o → order y x ≡ ordering_reverse o
  turned x y o e = laws.antisymm y x ∙ ap ordering_reverse e

  -- of two elements not each is before the other
  pub not_both : (x y : X) → order x y ≡ Less → order y x ≡ Less → ⊥
  not_both x y p q = true≢false (ap is_lt (sym q ∙ turned x y Less p))
