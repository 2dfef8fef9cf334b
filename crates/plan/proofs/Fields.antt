-- A leaf's fields one by one.
use Rattle.std.proofs.Common.{◌≡◌, ℕ, zero, suc, ◌+◌, ◌-◌, ◌<◌, ◌≤◌, Bool, true, false, cond, List, [], ◌∷◌, ◌++◌, length, get_or, take, drop, replicate, refl, sym, ap, ◌∙◌, ap₂, inl, inr, append-nil, arith, drop-cons, length-append, length-take, length-take-le, get_or-take, take-take}
use lib.ListN.{length-replicate}
use denote.Param.Members.{Mut, Called}
use Rattle.std.specs.Array.{MapsFrom, IsMapOf}
use Rattle.std.proofs.lemmas.Bool.{cases_lt}
use Rattle.std.proofs.lemmas.List.{drop_all, drop_more, take_at, get_or_append_left, get_or-append_right}
use Rattle.std.specs.Prelude.{count_by}
use Rattle.std.proofs.lemmas.List.Sums.{sum_by-cons}
use Rattle.plan.specs.Leaves.{fields_of, opens, matches, opened, filled}
use Rattle.plan.specs.declared.node.Field.{Field}
use Rattle.plan.specs.declared.node.Field.TheVariants.{Open, Fixed}

pub fields_long : (arity : ℕ) (fs : List Field) → length fs ≡ 4 → length (fields_of arity fs) ≡ 4
fields_long arity fs h = simp (length-append, length-take, length-replicate) (omega arith)

pub field_inside : (arity : ℕ) (fs : List Field) (i : ℕ) (d : Field) → i < length fs → i < arity → get_or (fields_of arity fs) i d ≡ get_or fs i d
field_inside arity fs i d h l = get_or_append_left (take arity fs) (replicate (4 - arity) (Fixed 0)) d i (simp length-take (omega arith)) ∙ get_or-take arity fs i d l

pub field_outside : (arity : ℕ) (fs : List Field) (i : ℕ) → i < length fs → arity ≤ i → get_or (fields_of arity fs) i (Fixed 0) ≡ Fixed 0
field_outside arity fs i h l = get_or-append_right (take arity fs) (replicate (4 - arity) (Fixed 0)) arity i (Fixed 0) (simp length-take (omega arith)) l ∙ all_zero (4 - arity) (i - arity)
  where
    all_zero : (n j : ℕ) → get_or (replicate n (Fixed 0)) j (Fixed 0) ≡ Fixed 0
    all_zero zero j = refl
    all_zero (suc n) zero = refl
    all_zero (suc n) (suc j) = all_zero n j

-- up to the arity they are as given
pub fields_front : (arity : ℕ) (fs : List Field) → length fs ≡ 4 → take arity (fields_of arity fs) ≡ take arity fs
fields_front arity fs h = elim (cases_lt arity 4) [
  | inl l ↦ take_at (take arity fs) (replicate (4 - arity) (Fixed 0)) arity (length-take-le arity fs (omega arith))
  | inr l ↦
      let none : 4 - arity ≡ 0 = omega arith in
      ap (λ n. take arity (take arity fs ++ replicate n (Fixed 0))) none ∙ ap (take arity) (append-nil (take arity fs)) ∙ take-take arity arity fs (omega arith)
]

-- one field of those that are left
module _ (fs : List Field) (i : ℕ) (d f : Field) (l : i < length fs) (e : get_or fs i d ≡ f) where
  left : drop i fs ≡ f ∷ drop (i + 1) fs
  left = drop_more fs i d l ∙ ap (λ g. g ∷ drop (i + 1) fs) e

  pub opens_left : opens (drop i fs) ≡ opens (f ∷ drop (i + 1) fs)
  opens_left = ap opens left

  pub filled_left : (t : List ℕ) → filled (drop i fs) t ≡ filled (f ∷ drop (i + 1) fs) t
  filled_left t = ap (λ z. filled z t) left

  pub matches_left : (xs : List ℕ) → i < length xs → matches (drop i fs) (drop i xs) ≡ matches (f ∷ drop (i + 1) fs) (get_or xs i 0 ∷ drop (i + 1) xs)
  matches_left xs m = ap₂ matches left (drop_more xs i 0 m)

  pub opened_left : (xs : List ℕ) → i < length xs → opened (drop i fs) (drop i xs) ≡ opened (f ∷ drop (i + 1) fs) (get_or xs i 0 ∷ drop (i + 1) xs)
  opened_left xs m = ap₂ opened left (drop_more xs i 0 m)

-- the field is open
abbrev pub is_open : Field → Bool
is_open Open = true
is_open (Fixed n) = false

pub opens_count : (fs : List Field) → count_by is_open fs ≡ opens fs
opens_count [] = refl
opens_count (Open ∷ fs) = omega (arith, sum_by-cons (λ f. cond (is_open f) 1 0) Open fs, opens_count fs)
opens_count (Fixed n ∷ fs) = omega (arith, sum_by-cons (λ f. cond (is_open f) 1 0) (Fixed n) fs, opens_count fs)

-- where each call gives a field its column and leaves the rest of the line, the calls at four fields give the four columns
module _ {F : Type 0} (g : Mut F (Field × Unit {0}) ℕ) (rest : F → List ℕ) (step : (f : F) (x : Field) (y : ℕ) (q : F) → Called g f (x, tt) y q → (fs : List Field) → filled (x ∷ fs) (rest f) ≡ y ∷ filled fs (rest q)) where
  from_filled : (n : ℕ) (f : F) (xs : List Field) (ys : List ℕ) (i : ℕ) → length xs ≡ i + n → length ys ≡ i + n → MapsFrom g f xs ys i n → drop i ys ≡ filled (drop i xs) (rest f)
  from_filled zero f xs ys i a b m = drop_all i ys (omega arith) ∙ ap (λ zs. filled zs (rest f)) (sym (drop_all i xs (omega arith)))
  from_filled (suc n) f xs ys i a b (q, x, y, e, h, k, m) =
      let next : suc i ≡ i + 1 = omega arith in
      let front : drop i xs ≡ x ∷ drop (i + 1) xs = drop-cons xs i x (omega arith) ∙ ap₂ ◌∷◌ e.0 (ap (λ j. drop j xs) next) in
      drop-cons ys i y (omega arith) ∙ ap₂ ◌∷◌ h.0 (ap (λ j. drop j ys) next ∙ from_filled n q xs ys (i + 1) (omega arith) (omega arith) m) ∙ sym (ap (λ zs. filled zs (rest f)) front ∙ step f x y q k (drop (i + 1) xs))

  pub mapped_filled : (f : F) (xs : List Field) (ys : List ℕ) → length xs ≡ 4 → IsMapOf g f xs ys 4 → ys ≡ filled xs (rest f)
  mapped_filled f xs ys long m = from_filled 4 f xs ys 0 long m.long m.each
