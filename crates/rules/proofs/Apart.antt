-- Lists in which no two elements are the same.
use Rattle.std.proofs.Common.{◌≡◌, suc, ◌≤◌, Bool, true, false, cond, not, ◌⊎◌, List, [], ◌∷◌, ◌++◌, length, filter, sym, refl, ap, ◌∙◌, subst, inl, inr, arith}
use mathlib.Core.List.Memᴰ
use mathlib.Core.List.{Memᴰ}
use Rattle.std.proofs.lemmas.Bool.{both_ways, and_parts, and_from, not-true, not_from_false}
use Rattle.store.specs.Lists.{any}
use Rattle.store.proofs.Tests.{from_not, any_pick, any_put}
use Rattle.rules.specs.Sets.{distinct}
use Rattle.rules.proofs.Members.{kept_pick}

module _ {A : Type 0} (same : A → A → Bool) where
  -- the first of them is the same as no other, and the others are apart
  pub apart_first : (x : A) {y : A} (xs : List A) → distinct same (x ∷ xs) ≡ true → Memᴰ y xs → same x y ≡ true → ⊥
  apart_first x xs h m e = both_ways (any (same x) xs) (not-true (any (same x) xs) (and_parts (not (any (same x) xs)) (distinct same xs) h).0) (any_put (same x) m e)

  pub apart_rest : (x : A) (xs : List A) → distinct same (x ∷ xs) ≡ true → distinct same xs ≡ true
  apart_rest x xs h = (and_parts (not (any (same x) xs)) (distinct same xs) h).1

  pub apart_put : (x : A) (xs : List A) → ((y : A) → Memᴰ y xs → same x y ≡ true → ⊥) → distinct same xs ≡ true → distinct same (x ∷ xs) ≡ true
  apart_put x xs free h = and_from (not (any (same x) xs)) (distinct same xs)
      (not_from_false (any (same x) xs) (from_not (any (same x) xs) (λ e. let (y, m, k) = any_pick (same x) xs e in free y m k))) h

  -- one more, wherever it is entered
  pub apart_entered : ((x y : A) → same x y ≡ same y x) → (c : A) (xs ys : List A) → ((y : A) → Memᴰ y (xs ++ ys) → same c y ≡ true → ⊥) → distinct same (xs ++ ys) ≡ true → distinct same (xs ++ (c ∷ ys)) ≡ true
  apart_entered turn c [] ys free h = apart_put c ys free h
  apart_entered turn c (x ∷ xs) ys free h = apart_put x (xs ++ (c ∷ ys))
      (λ y m e. elim (Memᴰ.append_cases xs m) [
        | inl n ↦ apart_first x (xs ++ ys) h (Memᴰ.append_left ys n) e
        | inr n ↦ elim (Memᴰ.cases_cons n) [
          | inl s ↦ free x (Memᴰ.head refl) (turn c x ∙ subst (λ z. same x z ≡ true) s e)
          | inr i ↦ apart_first x (xs ++ ys) h (Memᴰ.append_right xs i) e
        ]
      ])
      (apart_entered turn c xs ys (λ y m. free y (Memᴰ.tail m)) (apart_rest x (xs ++ ys) h))

  pub apart_kept : (test : A → Bool) (xs : List A) → distinct same xs ≡ true → distinct same (filter test xs) ≡ true
  apart_kept test [] h = refl
  apart_kept test (x ∷ xs) h = let ih = apart_kept test xs (apart_rest x xs h) in
      elim (test x) as (λ t. distinct same (cond t (x ∷ filter test xs) (filter test xs)) ≡ true) [
        | true ↦ apart_put x (filter test xs) (λ y m. apart_first x xs h (kept_pick test xs m).0) ih
        | false ↦ ih
      ]

-- the list without one element of it
module _ {A : Type 0} where
  abbrev without : {y : A} {ys : List A} → Memᴰ y ys → List A
  without (Memᴰ.head {xs = ys} e) = ys
  without (Memᴰ.tail {x = x} m) = x ∷ without m

  length_without : {y : A} {ys : List A} (m : Memᴰ y ys) → length ys ≡ suc (length (without m))
  length_without (Memᴰ.head e) = refl
  length_without (Memᴰ.tail m) = ap suc (length_without m)

  in_without : {y z : A} {ys : List A} (m : Memᴰ y ys) → Memᴰ z ys → (z ≡ y) ⊎ Memᴰ z (without m)
  in_without (Memᴰ.head e) n = elim (Memᴰ.cases_cons n) [ inl f ↦ inl (f ∙ sym e) | inr k ↦ inr k ]
  in_without (Memᴰ.tail m) n = elim (Memᴰ.cases_cons n) [
    | inl f ↦ inr (Memᴰ.head f)
    | inr k ↦ elim (in_without m k) [ inl f ↦ inl f | inr i ↦ inr (Memᴰ.tail i) ]
  ]

-- different things that each have a hole of their own are no more than the holes
module _ {A B : Type 0} (same : A → A → Bool) (Fills : A → B → Type 0) (alone : (x y : A) (z : B) → Fills x z → Fills y z → same x y ≡ true) where
  pub no_more : (xs : List A) (ys : List B) → distinct same xs ≡ true → ((x : A) → Memᴰ x xs → (y : B) × Memᴰ y ys × Fills x y) → length xs ≤ length ys
  no_more [] ys h find = omega arith
  no_more (x ∷ xs) ys h find =
      let (y, m, f) = find x (Memᴰ.head refl) in
      omega (
        arith,
        length_without m,
        no_more xs (without m) (apart_rest same x xs h) (λ z n.
            let (w, k, g) = find z (Memᴰ.tail n) in
            elim (in_without m k) [ inl e ↦ absurd (apart_first same x xs h n (alone x z y f (subst (λ v. Fills z v) e g))) | inr i ↦ (w, i, g) ]),
      )
