-- The tests of sameness hold of equal things, and of no others.
use Rattle.std.proofs.Common.{◌≡◌, ℕ, true, false, eqb, List, [], ◌∷◌, Decides, refl, subst, ap₂}
use Rattle.std.proofs.lemmas.Bool.{both_ways, and_parts, and_from, eqb-true, eq-eqb}
use Rattle.store.specs.Lists.{same_numbers}
use Rattle.store.specs.Rows.{same_row}
use Rattle.store.specs.declared.row.Row.{Row}

pub same_numbers_refl : (xs : List ℕ) → same_numbers xs xs ≡ true
same_numbers_refl [] = refl
same_numbers_refl (x ∷ xs) = and_from (eqb x x) (same_numbers xs xs) (eq-eqb x x refl) (same_numbers_refl xs)

pub same_numbers_is : (xs ys : List ℕ) → same_numbers xs ys ≡ true → xs ≡ ys
same_numbers_is [] [] h = refl
same_numbers_is [] (y ∷ ys) h = absurd (both_ways false refl h)
same_numbers_is (x ∷ xs) [] h = absurd (both_ways false refl h)
same_numbers_is (x ∷ xs) (y ∷ ys) h = let (a, b) = and_parts (eqb x y) (same_numbers xs ys) h in ap₂ ◌∷◌ (eqb-true x y a) (same_numbers_is xs ys b)

pub same_row_refl : (r : Row) → same_row r r ≡ true
same_row_refl r = and_from (eqb r.relation r.relation) (same_numbers r.columns r.columns) (eq-eqb _ _ refl) (same_numbers_refl r.columns)

pub same_row_is : (a b : Row) → same_row a b ≡ true → a ≡ b
same_row_is a b h = let (e, f) = and_parts (eqb a.relation b.relation) (same_numbers a.columns b.columns) h in
    let p = eqb-true a.relation b.relation e in
    let q = same_numbers_is a.columns b.columns f in
    λ i. record { relation = p i; columns = q i }

pub same_numbers_decides : (xs ys : List ℕ) → Decides (same_numbers xs ys) (xs ≡ ys)
same_numbers_decides xs ys = (same_numbers_is xs ys, λ e. subst (λ z. same_numbers xs z ≡ true) e (same_numbers_refl xs))
