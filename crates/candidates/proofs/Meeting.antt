-- What lines meet: by their fronts, behind other known columns, and with one comparison more.
use Rattle.std.proofs.Common.{◌≡◌, ℕ, ◌+◌, ◌<◌, Bool, true, false, not, ◌&&◌, ◌||◌, List, [], ◌∷◌, ◌++◌, length, get_or, filter, leb, ltb, sym, refl, ap, ◌∙◌, subst, ap₂, arith, length-append, append_assoc}
use Rattle.std.proofs.lemmas.List.{get_or_append_left, get_or-append_right}
use Rattle.std.proofs.lemmas.List.Folds.{list_all-append}
use Rattle.std.proofs.lemmas.Bool.{and_parts, and_from, ltb-true, leb-true}
use Rattle.store.specs.Lists.{all}
use Rattle.store.specs.Sides.{side_value, side_passes, holds_by, all_columns}
use Rattle.store.specs.Signs.{compares}
use Rattle.store.specs.declared.comparison.Side.{Side}
use Rattle.store.specs.declared.comparison.Side.TheVariants.{Column, Constant}
use Rattle.store.specs.declared.comparison.Comparison.{Comparison}
use Rattle.store.proofs.Tests.{all_at, all_put}
use Rattle.plan.specs.Answers.{chosen}
use Rattle.plan.specs.Filling.{inside}
use Rattle.plan.proofs.Members.{kept_pick}
use Rattle.candidates.specs.Wanting.{meets, passes, shifted_side, shifted}

-- ---- comparisons, by what is known of their columns
module _ (test : ℕ → Bool) (c : Comparison ℕ) (h : all_columns test c ≡ true) where
  -- a statement of each side whose column passes
  each_side : (P : Side ℕ → Type 0) → ((s : Side ℕ) → side_passes test s ≡ true → P s) → P c.left × P c.right
  each_side P f = let (l, r) = and_parts (side_passes test c.left) (side_passes test c.right) h in (f c.left l, f c.right r)

  -- the comparison holds of values that agree where its columns pass
  agrees : (v w : ℕ → ℕ) → ((k : ℕ) → test k ≡ true → v k ≡ w k) → holds_by v c ≡ holds_by w c
  agrees v w f =
      let (l, r) = each_side (λ s. side_value v s ≡ side_value w s) side in
      ap₂ (compares c.sign) l r
    where
      side : (s : Side ℕ) → side_passes test s ≡ true → side_value v s ≡ side_value w s
      side (Column k) p = f k p
      side (Constant n) p = refl

  -- and so do the sides of another test that passes where this one does
  also_all : (other : ℕ → Bool) → ((k : ℕ) → test k ≡ true → other k ≡ true) → all_columns other c ≡ true
  also_all other f =
      let (l, r) = each_side (λ s. side_passes other s ≡ true) side in
      and_from (side_passes other c.left) (side_passes other c.right) l r
    where
      side : (s : Side ℕ) → side_passes test s ≡ true → side_passes other s ≡ true
      side (Column k) p = f k p
      side (Constant n) p = refl

ltb-lt : (a b : ℕ) → a < b → ltb a b ≡ true
ltb-lt a b h = grind arith

meets_by : (line : List ℕ) (c : Comparison ℕ) → (inside (length line) c ≡ true → chosen c line ≡ true) → meets line c ≡ true
meets_by line c f = by (inside (length line) c) f
  where
    by : (b : Bool) → (b ≡ true → chosen c line ≡ true) → (not b || chosen c line) ≡ true
    by true g = g refl
    by false g = refl

meets_then : (line : List ℕ) (c : Comparison ℕ) → meets line c ≡ true → inside (length line) c ≡ true → chosen c line ≡ true
meets_then line c m h = subst (λ b. (not b || chosen c line) ≡ true) h m

-- the front of a line that meets a comparison meets it
pub meets_front : (a b : List ℕ) (c : Comparison ℕ) → meets (a ++ b) c ≡ true → meets a c ≡ true
meets_front a b c m = meets_by a c (λ h.
    agrees (λ k. ltb k (length a)) c h (λ k. get_or a k 0) (λ k. get_or (a ++ b) k 0) (λ k p. sym (get_or_append_left a b 0 k (ltb-true k (length a) p))) ∙
    meets_then (a ++ b) c m (also_all (λ k. ltb k (length a)) c h (λ k. ltb k (length (a ++ b))) (λ k p. ltb-lt k (length (a ++ b)) (omega (arith, ltb-true k (length a) p, length-append a b)))))

-- what asks of no column before `from` does not tell apart what stands there
pub meets_behind : (from : ℕ) (p q l : List ℕ) (c : Comparison ℕ) → length p ≡ from → length q ≡ from → all_columns (λ k. leb from k) c ≡ true → meets (p ++ l) c ≡ meets (q ++ l) c
meets_behind from p q l c e f h =
    let long : length (p ++ l) ≡ length (q ++ l) = omega (arith, length-append p l, length-append q l) in
    ap₂ (λ n b. not (inside n c) || b) long
    (agrees (λ k. leb from k) c h (λ k. get_or (p ++ l) k 0) (λ k. get_or (q ++ l) k 0)
    (λ k t. get_or-append_right p l from k 0 e (leb-true from k t) ∙ sym (get_or-append_right q l from k 0 f (leb-true from k t))))

-- a comparison of the line, as one of the whole line
module _ (at : ℕ) (p l : List ℕ) (e : length p ≡ at) where
  side_shifted : (s : Side ℕ) → side_value (λ k. get_or (p ++ l) k 0) (shifted_side at s) ≡ side_value (λ k. get_or l k 0) s
  side_shifted (Column k) = get_or-append_right p l at (at + k) 0 e (omega arith) ∙ ap (λ n. get_or l n 0) (omega arith)
  side_shifted (Constant n) = refl

  chosen_shifted : (c : Comparison ℕ) → chosen (shifted at c) (p ++ l) ≡ chosen c l
  chosen_shifted c = ap₂ (compares c.sign) (side_shifted c.left) (side_shifted c.right)

  side_inside : (s : Side ℕ) → side_passes (λ k. ltb k (length l)) s ≡ true → side_passes (λ k. ltb k (length (p ++ l))) (shifted_side at s) ≡ true
  side_inside (Column k) h = ltb-lt (at + k) (length (p ++ l)) (omega (arith, ltb-true k (length l) h, length-append p l))
  side_inside (Constant n) h = refl

  inside_shifted : (c : Comparison ℕ) → inside (length l) c ≡ true → inside (length (p ++ l)) (shifted at c) ≡ true
  inside_shifted c h =
      let (a, b) = and_parts (side_passes (λ k. ltb k (length l)) c.left) (side_passes (λ k. ltb k (length l)) c.right) h in
      and_from _ _ (side_inside c.left a) (side_inside c.right b)

  pub meets_shifted : (c : Comparison ℕ) → inside (length l) c ≡ true → meets (p ++ l) (shifted at c) ≡ chosen c l
  meets_shifted c h = ap (λ b. not b || chosen (shifted at c) (p ++ l)) (inside_shifted c h) ∙ chosen_shifted c

-- ---- all comparisons
module _ (cs : List (Comparison ℕ)) where
  -- a product's line, by its left part and what comes behind that
  pub passes_parts : (p u v : List ℕ) → passes cs p (u ++ v) ≡ passes cs (p ++ u) v
  passes_parts p u v = ap (λ line. all (meets line) cs) (sym (append_assoc p u v))

  pub passes_left : (p u v : List ℕ) → passes cs p (u ++ v) ≡ true → passes cs p u ≡ true
  passes_left p u v h = all_put (meets (p ++ u)) cs (λ c m. meets_front (p ++ u) v c (all_at (meets ((p ++ u) ++ v)) m (sym (passes_parts p u v) ∙ h)))

  -- the right part meets what asks of it alone, whatever stands before it
  pub passes_alone : (from : ℕ) (p q l : List ℕ) → length p ≡ from → length q ≡ from → passes cs p l ≡ true → passes (filter (all_columns (λ k. leb from k)) cs) q l ≡ true
  passes_alone from p q l e f h = all_put (meets (q ++ l)) (filter (all_columns (λ k. leb from k)) cs)
      (λ c m. let (n, t) = kept_pick (all_columns (λ k. leb from k)) cs m in sym (meets_behind from p q l c e f t) ∙ all_at (meets (p ++ l)) n h)

  -- with one comparison more, of a line that has all its columns
  module _ (at : ℕ) (p l : List ℕ) (e : length p ≡ at) (c : Comparison ℕ) (h : inside (length l) c ≡ true) where
    pub passes_also : passes (cs ++ shifted at c ∷ []) p l ≡ (passes cs p l && chosen c l)
    passes_also =
        list_all-append (meets (p ++ l)) cs (shifted at c ∷ []) ∙ ap (λ b. passes cs p l && b) (and_true (meets (p ++ l) (shifted at c)) ∙ meets_shifted at p l e c h)
      where
        and_true : (b : Bool) → (b && true) ≡ b
        and_true true = refl
        and_true false = refl
