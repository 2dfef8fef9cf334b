-- Keys that are equal column by column are the same. Assumes nothing.
use Rattle.std.proofs.Common.{◌≡◌, ℕ, ◌<◌, List, [], ◌∷◌, Ordering, Less, Equal, Greater, refl, ap, subst, true≢false}
use Rattle.std.specs.Cmp.{ranks}
use Rattle.std.specs.Ordering.{is_lt, is_gt, ordering_then, MatchOrdering, nat_cmp}
use Rattle.ordered.specs.Columnwise.{columnwise}

both_equal : (a b : Ordering) → ordering_then a b ≡ Equal → (a ≡ Equal) × (b ≡ Equal)
both_equal Less b e = absurd (true≢false (ap is_lt e))
both_equal Equal b e = (refl, e)
both_equal Greater b e = absurd (true≢false (ap is_gt e))

pub same_columns : (xs ys : List ℕ) → columnwise xs ys ≡ Equal → xs ≡ ys
same_columns [] [] e = refl
same_columns [] (y ∷ ys) e = absurd (true≢false (ap is_lt e))
same_columns (x ∷ xs) [] e = absurd (true≢false (ap is_gt e))
same_columns (x ∷ xs) (y ∷ ys) e =
    let parts = both_equal (nat_cmp x y) (columnwise xs ys) e in
    let first : x ≡ y = subst (λ o. MatchOrdering o (x < y) (x ≡ y) (y < x)) parts.0 (ranks x y) in
    λ i. first i ∷ same_columns xs ys parts.1 i
