-- A line at a leaf, and the row that it names there.
use Rattle.std.proofs.Common.{◌≡◌, ℕ, suc, true, false, eqb, List, [], ◌∷◌, length, refl, ap, ap₂, arith}
use Rattle.std.proofs.lemmas.Bool.{both_ways, and_parts, and_from, eqb-true, eq-eqb}
use Rattle.plan.specs.Leaves.{opens, matches, opened, filled}
use Rattle.plan.specs.declared.node.Field.{Field}
use Rattle.plan.specs.declared.node.Field.TheVariants.{Open, Fixed}

-- columns that have the constants are named by their open ones
pub filled_opened : (fs : List Field) (xs : List ℕ) → matches fs xs ≡ true → filled fs (opened fs xs) ≡ xs
filled_opened [] [] h = refl
filled_opened [] (x ∷ xs) h = absurd (both_ways false refl h)
filled_opened (f ∷ fs) [] h = absurd (both_ways false refl h)
filled_opened (Open ∷ fs) (x ∷ xs) h = ap (◌∷◌ x) (filled_opened fs xs h)
filled_opened (Fixed n ∷ fs) (x ∷ xs) h = let (a, b) = and_parts (eqb n x) (matches fs xs) h in ap₂ ◌∷◌ (eqb-true n x a) (filled_opened fs xs b)

pub length_opened : (fs : List Field) (xs : List ℕ) → matches fs xs ≡ true → length (opened fs xs) ≡ opens fs
length_opened [] [] h = refl
length_opened [] (x ∷ xs) h = refl
length_opened (f ∷ fs) [] h = absurd (both_ways false refl h)
length_opened (Open ∷ fs) (x ∷ xs) h = ap suc (length_opened fs xs h)
length_opened (Fixed n ∷ fs) (x ∷ xs) h = length_opened fs xs (and_parts (eqb n x) (matches fs xs) h).1

-- columns that a line names have the constants, and its numbers at the open fields
pub matches_filled : (fs : List Field) (t : List ℕ) → length t ≡ opens fs → matches fs (filled fs t) ≡ true
matches_filled [] t h = refl
matches_filled (Fixed n ∷ fs) t h = and_from (eqb n n) (matches fs (filled fs t)) (eq-eqb n n refl) (matches_filled fs t h)
matches_filled (Open ∷ fs) [] h = absurd (omega arith)
matches_filled (Open ∷ fs) (x ∷ t) h = matches_filled fs t (omega arith)

pub opened_filled : (fs : List Field) (t : List ℕ) → length t ≡ opens fs → opened fs (filled fs t) ≡ t
opened_filled [] [] h = refl
opened_filled [] (x ∷ t) h = absurd (omega arith)
opened_filled (Fixed n ∷ fs) t h = opened_filled fs t h
opened_filled (Open ∷ fs) [] h = absurd (omega arith)
opened_filled (Open ∷ fs) (x ∷ t) h = ap (◌∷◌ x) (opened_filled fs t (omega arith))
