-- The least line of two lists, and of the rows at places.
use Rattle.std.proofs.Common.{◌≡◌, ℕ, ◌+◌, ◌<◌, Bool, true, false, cond, ◌&&◌, eqb, List, [], ◌∷◌, ◌++◌, map, length, get_or, take, Some, None, filter, Option, sym, refl, ap, ◌∙◌, subst, inl, inr, append-nil}
use mathlib.Core.List.Memᴰ
use mathlib.Core.List.{Memᴰ}
use Rattle.std.specs.Prelude.{MatchOption}
use Rattle.std.specs.Bool.{then_some}
use Rattle.std.proofs.lemmas.List.{take_more}
use Rattle.std.proofs.lemmas.List.Elements.{filter-append}
use Rattle.plan.proofs.Members.{kept_pick}
use Rattle.std.proofs.lemmas.Bool.{both_ways}
use Rattle.store.specs.declared.row.Row.{Row}
use Rattle.store.proofs.Tests.{from_not}
use Rattle.plan.specs.Leaves.{matches, opened, leaf_lines}
use Rattle.candidates.specs.Seeking.{reaches, Single, Least, lesser}
use Rattle.candidates.specs.Candidates.{before}
use Rattle.store.specs.Held.{given, rows_of}
use Rattle.std.proofs.lemmas.Grind.{flat_map-append}
use Rattle.plan.specs.declared.node.Field.{Field}
use Rattle.std.specs.declared.ops.Bound.{Bound}
use Rattle.candidates.proofs.Before.{irreflexive, transitive, compared}

module _ (start : Bound (List ℕ)) (w : ℕ) where
  pub least_none : Least [] start w None
  least_none t m = elim m [ ]

  both_some : (ps qs : List (List ℕ)) (x y : List ℕ) → Least ps start w (Some x) → Least qs start w (Some y) → (b : Bool) → before (take w y) (take w x) ≡ b → Least (ps ++ qs) start w (cond b (Some y) (Some x))
  both_some ps qs x y (i, r, f, l, z) (j, s, g, m, v) true e = (
    Memᴰ.append_right ps j,
    s,
    (λ t n q. elim (Memᴰ.append_cases ps n) [
      | inl a ↦ from_not (before t (take w y)) (λ k. both_ways (before t (take w x)) (f t a q) (transitive t (take w y) (take w x) k e))
      | inr a ↦ g t a q
    ]),
    m,
    v,
  )
  both_some ps qs x y (i, r, f, l, z) (j, s, g, m, v) false e = (
    Memᴰ.append_left qs i,
    r,
    (λ t n q. elim (Memᴰ.append_cases ps n) [
      | inl a ↦ f t a q
      | inr a ↦ from_not (before t (take w x)) (λ k. elim (compared t (take w y)) [
        | inl o ↦ both_ways (before t (take w y)) (g t a q) o
        | inr o ↦ elim o [
          | inl p ↦ both_ways (before (take w y) (take w x)) e (subst (λ u. before u (take w x) ≡ true) p k)
          | inr p ↦ both_ways (before (take w y) (take w x)) e (transitive (take w y) t (take w x) p k)
        ]
      ])
    ]),
    l,
    z,
  )

  pub least_append : (ps qs : List (List ℕ)) (a b : Option (List ℕ)) → Least ps start w a → Least qs start w b → Least (ps ++ qs) start w (lesser w a b)
  least_append ps qs None None f g = λ t n. elim (Memᴰ.append_cases ps n) [ inl a ↦ f t a | inr a ↦ g t a ]
  least_append ps qs None (Some y) f (j, s, g, m, v) =
      (Memᴰ.append_right ps j, s, (λ t n q. elim (Memᴰ.append_cases ps n) [ inl a ↦ absurd (both_ways (reaches start t) (f t a) q) | inr a ↦ g t a q ]), m, v)
  least_append ps qs (Some x) None (i, r, f, l, z) g =
      (Memᴰ.append_left qs i, r, (λ t n q. elim (Memᴰ.append_cases ps n) [ inl a ↦ f t a q | inr a ↦ absurd (both_ways (reaches start t) (g t a) q) ]), l, z)
  least_append ps qs (Some x) (Some y) f g = both_some ps qs x y f g (before (take w y) (take w x)) refl

  -- by the members alone
  pub least_same : (ps qs : List (List ℕ)) → ((t : List ℕ) → Memᴰ t ps → Memᴰ t qs) → ((t : List ℕ) → Memᴰ t qs → Memᴰ t ps) → (o : Option (List ℕ)) → Least ps start w o → Least qs start w o
  least_same ps qs into back None f = λ t m. f t (back t m)
  least_same ps qs into back (Some x) (i, r, f, l, z) = (into (take w x) i, r, (λ t m q. f t (back t m) q), l, z)

  -- ---- of one line at most, whether it passes and the search reaches it
  module _ (p : List ℕ → Bool) where
    single_if : (lines : List (List ℕ)) (a : List ℕ) → Single lines w (Some a) → (c : Bool) → c ≡ p (take w a) → (b : Bool) → b ≡ reaches start (take w a) → Least (filter p lines) start w (then_some (b && c) a)
    single_if lines a (is, l, z) true good true near = subst (λ ts. Least ts start w (Some a)) (sym (kept is (sym good)))
        (Memᴰ.head refl, sym near, (λ t m q. elim m [ Memᴰ.head e ↦ subst (λ u. before u (take w a) ≡ false) (sym e) (irreflexive (take w a)) | Memᴰ.tail n ↦ elim n [ ] ]), l, z)
      where
        kept : lines ≡ take w a ∷ [] → p (take w a) ≡ true → filter p lines ≡ take w a ∷ []
        kept is good = ap (filter p) is ∙ ap (λ b. cond b (take w a ∷ []) []) good
    single_if lines a (is, l, z) true good false far = subst (λ ts. Least (filter p ts) start w None) (sym is)
        (λ t m. elim ((kept_pick p (take w a ∷ []) m).0) [ Memᴰ.head e ↦ subst (λ u. reaches start u ≡ false) (sym e) (sym far) | Memᴰ.tail n ↦ elim n [ ] ])
    single_if lines a (is, l, z) false bad b near = subst (λ ts. Least ts start w (then_some (b && false) a)) (sym (ap (filter p) is ∙ ap (λ b. cond b (take w a ∷ []) []) (sym bad))) (none b)
      where
        none : (b : Bool) → Least [] start w (then_some (b && false) a)
        none true = least_none
        none false = least_none

    pub single_least : (P : List ℕ → Bool → Type 0) (lines : List (List ℕ)) (r o : Option (List ℕ)) → Single lines w r → ((a : List ℕ) (b : Bool) → P a b → b ≡ (reaches start (take w a) && p (take w a))) →
        MatchOption r (o ≡ None) (λ a. (b : Bool) × P a b × (o ≡ then_some b a)) → Least (filter p lines) start w o
    single_least P lines None o e says f = rw f (subst (λ ts. Least (filter p ts) start w None) (sym e) least_none)
    single_least P lines (Some a) o one says (b, q, f) = rw f (rw (says a b q) (single_if lines a one (p (take w a)) refl (reaches start (take w a)) refl))

-- a leaf's lines over more rows, and the rows at more places
leaf_append : (relation : ℕ) (fields : List Field) (xs ys : List Row) → leaf_lines relation fields (xs ++ ys) ≡ leaf_lines relation fields xs ++ leaf_lines relation fields ys
leaf_append relation fields [] ys = refl
leaf_append relation fields (x ∷ xs) ys = go (eqb relation x.relation && matches fields x.columns) (leaf_append relation fields xs ys)
  where
    go : (b : Bool) → leaf_lines relation fields (xs ++ ys) ≡ leaf_lines relation fields xs ++ leaf_lines relation fields ys →
        map (λ (r : Row). opened fields r.columns) (cond b (x ∷ filter (λ r. eqb relation r.relation && matches fields r.columns) (xs ++ ys)) (filter (λ r. eqb relation r.relation && matches fields r.columns) (xs ++ ys)))
        ≡ map (λ (r : Row). opened fields r.columns) (cond b (x ∷ filter (λ r. eqb relation r.relation && matches fields r.columns) xs) (filter (λ r. eqb relation r.relation && matches fields r.columns) xs)) ++ leaf_lines relation fields ys
    go true ih = ap (◌∷◌ (opened fields x.columns)) ih
    go false ih = ih

module _ (places : List (Option Row)) (i : ℕ) (within : i < length places) where
  more : rows_of (take (i + 1) places) ≡ rows_of (take i places) ++ rows_of (get_or places i None ∷ [])
  more = ap rows_of (take_more places i None within) ∙ flat_map-append given (take i places) (get_or places i None ∷ [])

  pub place_empty : get_or places i None ≡ None → rows_of (take (i + 1) places) ≡ rows_of (take i places)
  place_empty e = more ∙ ap (λ o. rows_of (take i places) ++ rows_of (o ∷ [])) e ∙ append-nil (rows_of (take i places))

  pub place_more : (start : Bound (List ℕ)) (w : ℕ) (p : List ℕ → Bool) (relation : ℕ) (fields : List Field) (row : Row) → get_or places i None ≡ Some row → (a b : Option (List ℕ)) →
      Least (filter p (leaf_lines relation fields (rows_of (take i places)))) start w a → Least (filter p (leaf_lines relation fields (row ∷ []))) start w b →
      Least (filter p (leaf_lines relation fields (rows_of (take (i + 1) places)))) start w (lesser w a b)
  place_more start w p relation fields row e a b f g =
      let rows = rows_of (take i places) in
      let lines = leaf_lines relation fields rows in
      let here = leaf_lines relation fields (row ∷ []) in
      subst (λ cs. Least cs start w (lesser w a b))
      (sym (ap (λ rs. filter p (leaf_lines relation fields rs)) (more ∙ ap (λ o. rows ++ rows_of (o ∷ [])) e) ∙ ap (filter p) (leaf_append relation fields rows (row ∷ [])) ∙ filter-append p lines here))
      (least_append start w (filter p lines) (filter p here) a b f g)
