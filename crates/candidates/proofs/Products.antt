-- The least line of a product that passes, by a loop over its left lines.
use Rattle.std.proofs.Common.{◌≡◌, ℕ, ◌+◌, Bool, true, false, ◌⊎◌, List, ◌++◌, length, take, Some, None, filter, Option, sym, refl, ◌∙◌, subst, inl, inr}
use mathlib.Core.List.{Memᴰ}
use Rattle.std.proofs.lemmas.Bool.{both_ways, not-true, not_from_false, cases_Bool}
use Rattle.store.proofs.Tests.{from_not}
use Rattle.plan.specs.Answers.{lines_by}
use Rattle.candidates.specs.Seeking.{reaches, Padded, Least, on_left, on_right}
use Rattle.candidates.specs.Candidates.{before}
use Rattle.plan.specs.declared.node.Op.TheVariants.{Product}
use Rattle.std.specs.Range.Bound.{bound_map}
use Rattle.std.specs.declared.ops.Bound.{Bound}
use Rattle.std.specs.declared.ops.Bound.TheVariants.{Included, Excluded, Unbounded}
use Rattle.plan.proofs.Members.{kept_put, kept_pick, pairs_put, pairs_pick}
use Rattle.candidates.proofs.Going.{Going, going_start, going_on}
use Rattle.candidates.proofs.Before.{irreflexive, asymmetric, same_if, front_less, front_same, front_cases}

-- the same start, from or past this line
abbrev pub with_line : Bound (List ℕ) → List ℕ → Bound (List ℕ)
with_line start line = bound_map (λ _. line) start

module _ (A B : List ℕ) where
  on_left_lem : (start : Bound (List ℕ)) (u v : List ℕ) → length A ≡ length u → reaches (with_line start (A ++ B)) (u ++ v) ≡ true → reaches (with_line (on_left start) A) u ≡ true
  on_left_lem Unbounded u v l h = refl
  on_left_lem (Included s) u v l h = not_from_false (before u A) (from_not (before u A) (λ k. both_ways (before (u ++ v) (A ++ B)) (not-true (before (u ++ v) (A ++ B)) h) (front_less u A v B (sym l) k)))
  on_left_lem (Excluded s) u v l h = not_from_false (before u A) (elim (front_cases A u B v l h) [
    | inl k ↦ asymmetric A u k
    | inr k ↦ subst (λ z. before u z ≡ false) (sym k.0) (irreflexive u)
  ])

  -- x is at the start or past it
  at_or_past : (x : List ℕ) → before x A ≡ false → (before A x ≡ true) ⊎ ((before A x ≡ false) × (A ≡ x))
  at_or_past x h = elim (cases_Bool (before A x)) [ inl a ↦ inl a | inr a ↦ inr (a, same_if A x a h) ]

  reach_right : (start : Bound (List ℕ)) (x v : List ℕ) → length A ≡ length x → reaches (with_line start (A ++ B)) (x ++ v) ≡ true → (b : Bool) → before A x ≡ b → reaches (with_line (on_right start b) B) v ≡ true
  reach_right start x v l h true e = refl
  reach_right Unbounded x v l h false e = refl
  reach_right (Included at) x v l h false e =
      let s : A ≡ x = same_if A x e (not-true (before x A) (on_left_lem (Included at) x v l h)) in
      not_from_false (before v B) (from_not (before v B) (λ k. both_ways (before (x ++ v) (A ++ B)) (not-true (before (x ++ v) (A ++ B)) h) (subst (λ z. before (x ++ v) (z ++ B) ≡ true) (sym s) (front_same x v B k))))
  reach_right (Excluded s) x v l h false e = elim (front_cases A x B v l h) [ inl k ↦ absurd (both_ways (before A x) e k) | inr k ↦ k.1 ]

  reach_both : (start : Bound (List ℕ)) (x y : List ℕ) → length A ≡ length x → reaches (with_line (on_left start) A) x ≡ true → (b : Bool) → before A x ≡ b → reaches (with_line (on_right start b) B) y ≡ true → reaches (with_line start (A ++ B)) (x ++ y) ≡ true
  reach_both Unbounded x y l h b e k = refl
  reach_both (Included s) x y l h true e k = not_from_false (before (x ++ y) (A ++ B)) (asymmetric (A ++ B) (x ++ y) (front_less A x B y l e))
  reach_both (Included s) x y l h false e k = not_from_false (before (x ++ y) (A ++ B)) (from_not (before (x ++ y) (A ++ B)) (λ q. elim (front_cases x A y B (sym l) q) [
    | inl o ↦ both_ways (before x A) (not-true (before x A) h) o
    | inr o ↦ both_ways (before y B) (not-true (before y B) k) o.1
  ]))
  reach_both (Excluded s) x y l h true e k = front_less A x B y l e
  reach_both (Excluded at) x y l h false e k =
      let s : A ≡ x = same_if A x e (not-true (before x A) h) in
      subst (λ z. before (A ++ B) (z ++ y) ≡ true) s (front_same A B y k)

-- a left line behind which a line goes on that passes and is reached
abbrev Good : List (List ℕ) → (List ℕ → Bool) → Bound (List ℕ) → List ℕ → Type 0
Good qs P at u = (v : List ℕ) × Memᴰ v qs × (P (u ++ v) ≡ true) × (reaches at (u ++ v) ≡ true)

-- a loop over the left lines that pass F, which passes by none that is good
abbrev pub Pairing : List (List ℕ) → List (List ℕ) → ℕ → List ℕ → List ℕ → Bound (List ℕ) → (List ℕ → Bool) → (List ℕ → Bool) → Option (List ℕ) → Type 0
Pairing ps qs wl A B start P F = Going (filter F ps) (Good qs P (with_line start (A ++ B))) (with_line (on_left start) A) wl

-- the lines that pass of a product are sought by the left lines, least first, and for each by the right lines behind it
module _ (ps qs : List (List ℕ)) (wl wr : ℕ) (long : (u : List ℕ) → Memᴰ u ps → length u ≡ wl) (A B : List ℕ) (al : length A ≡ wl) (start : Bound (List ℕ))
    (P F : List ℕ → Bool) (front : (u v : List ℕ) → P (u ++ v) ≡ true → F u ≡ true) where
  abbrev Lines : List (List ℕ)
  Lines = filter P (lines_by Product ps qs)

  abbrev Lefts : List (List ℕ)
  Lefts = filter F ps

  long_left : (u : List ℕ) → Memᴰ u Lefts → length u ≡ wl
  long_left u i = long u (kept_pick F ps i).0

  -- a statement of each reached line, by its parts
  by_parts : (Q : List ℕ → Type 0) → ((u v : List ℕ) → Memᴰ u Lefts → Memᴰ v qs → P (u ++ v) ≡ true → length A ≡ length u → reaches (with_line start (A ++ B)) (u ++ v) ≡ true → Q (u ++ v)) →
      (t : List ℕ) → Memᴰ t Lines → reaches (with_line start (A ++ B)) t ≡ true → Q t
  by_parts Q f t m q =
      let (n, good) = kept_pick P (lines_by Product ps qs) m in
      let (u, v, i, j, e) = pairs_pick ps qs t n in
      let passes : P (u ++ v) ≡ true = subst (λ z. P z ≡ true) (sym e) good in
      subst Q e (f u v (kept_put F i (front u v passes)) j passes (al ∙ sym (long u i)) (subst (λ z. reaches (with_line start (A ++ B)) z ≡ true) (sym e) q))

  none_by_parts : ((u v : List ℕ) → Memᴰ u Lefts → Memᴰ v qs → P (u ++ v) ≡ true → length A ≡ length u → reaches (with_line start (A ++ B)) (u ++ v) ≡ true → ⊥) → Least Lines (with_line start (A ++ B)) (wl + wr) None
  none_by_parts f t m = from_not (reaches (with_line start (A ++ B)) t) (by_parts (λ _. ⊥) f t m)

  abbrev Goes : Option (List ℕ) → Type 0
  Goes = Pairing ps qs wl A B start P F

  abbrev Shows : List ℕ → Type 0
  Shows = Good qs P (with_line start (A ++ B))

  pub pairing_start : (o : Option (List ℕ)) → Least Lefts (with_line (on_left start) A) wl o → Goes o
  pairing_start = going_start Lefts Shows (with_line (on_left start) A) wl

  pub pairing_end : Goes None → Least Lines (with_line start (A ++ B)) (wl + wr) None
  pairing_end f = none_by_parts (λ u v i j good l q. both_ways (reaches (with_line (on_left start) A) u) (f u i (v, j, good, q)) (on_left_lem A B start u v l q))

  -- no right line passes for itself
  pub none_alone : (O : List ℕ → Bool) → ((u v : List ℕ) → length u ≡ wl → P (u ++ v) ≡ true → O v ≡ true) → Least (filter O qs) Unbounded wr None → Least Lines (with_line start (A ++ B)) (wl + wr) None
  none_alone O f none = none_by_parts (λ u v i j good l q. both_ways true (none v (kept_put O j (f u v (long_left u i) good))) refl)

  not_less : (u v x y : List ℕ) → length u ≡ length x → before u x ≡ false → (u ≡ x → before v y ≡ false) → before (u ++ v) (x ++ y) ≡ false
  not_less u v x y l a b = from_not (before (u ++ v) (x ++ y)) (λ k. elim (front_cases u x v y l k) [ inl o ↦ both_ways (before u x) a o | inr o ↦ both_ways (before v y) (b o.0) o.1 ])

  module _ (x : List ℕ) (here : Goes (Some x)) (R : List ℕ → Bool) (behind : (v : List ℕ) → P (take wl x ++ v) ≡ R v) where
    abbrev X : List ℕ
    X = take wl x

    abbrev Next : Bound (List ℕ)
    Next = with_line (on_right start (before A X)) B

    as_long : length A ≡ length X
    as_long = al ∙ sym (long_left X here.0)

    -- a reached line with this left part has its right part among those that are sought
    on_right_lem : (v : List ℕ) → reaches (with_line start (A ++ B)) (X ++ v) ≡ true → reaches Next v ≡ true
    on_right_lem v q = reach_right A B start X v as_long q (before A X) refl

    pub pairing_on : Least (filter R qs) Next wr None → (o : Option (List ℕ)) → Least Lefts (Excluded X) wl o → Goes o
    pairing_on none = going_on Lefts Shows (with_line (on_left start) A) wl x here
        (λ (v, j, good, q). both_ways (reaches Next v) (none v (kept_put R j (sym (behind v) ∙ good))) (on_right_lem v q))

    pub pairing_found : (y z : List ℕ) → Least (filter R qs) Next wr (Some y) → take (wl + wr) z ≡ X ++ take wr y → length z ≡ 8 → Padded (wl + wr) z → Least Lines (with_line start (A ++ B)) (wl + wr) (Some z)
    pairing_found y z right e l p =
        let Y : List ℕ = take wr y in
        let (j, good) = kept_pick R qs right.0 in
        let least : (t : List ℕ) → Memᴰ t Lines → reaches (with_line start (A ++ B)) t ≡ true → before t (X ++ Y) ≡ false = by_parts (λ t. before t (X ++ Y) ≡ false)
        (λ u v i k passes lu q. not_less u v X Y (sym lu ∙ as_long) (here.2 u i (v, k, passes, q) (on_left_lem A B start u v lu q))
        (λ s. right.2 v (kept_put R k (sym (behind v) ∙ subst (λ c. P (c ++ v) ≡ true) s passes)) (on_right_lem v (subst (λ c. reaches (with_line start (A ++ B)) (c ++ v) ≡ true) s q)))) in (
          subst (λ t. Memᴰ t Lines) (sym e) (kept_put P (pairs_put (kept_pick F ps here.0).0 j) (behind Y ∙ good)),
          subst (λ t. reaches (with_line start (A ++ B)) t ≡ true) (sym e) (reach_both A B start X Y as_long here.1 (before A X) refl right.1),
          (λ t m q. subst (λ c. before t c ≡ false) (sym e) (least t m q)),
          l,
          p,
        )
