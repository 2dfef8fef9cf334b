-- Which lines the lists of lines have.
use Rattle.std.proofs.Common.{◌≡◌, ℕ, zero, suc, ◌+◌, ◌-◌, ◌≤◌, Bool, true, not, ◌&&◌, ◌||◌, eqb, List, [], ◌∷◌, ◌++◌, map, length, take, drop, replicate, filter, sym, refl, ap, ◌∙◌, subst, ap₂, inl, inr, arith, length-append, length-drop, take-append-drop, length-take-le, take-take, drop-drop}
use mathlib.Core.List.Memᴰ
use mathlib.Core.List.{Memᴰ}
use lib.ListN.{length-replicate}
use Rattle.std.proofs.lemmas.List.{drop-take, take_at, drop_at}
use Rattle.std.proofs.lemmas.Bool.{and_parts, and_from, or_cases, or_left, or_right, eqb-true, eq-eqb}
use Rattle.store.specs.Lists.{all}
use Rattle.store.specs.Rows.{zero_from}
use Rattle.store.specs.declared.row.Row.{Row}
use Rattle.store.proofs.Tests.{same_tests}
use Rattle.plan.specs.Answers.{has, among, width_by, lines_by, padded}
use Rattle.plan.specs.Filling.{alike}
use Rattle.plan.specs.Leaves.{opens, matches, opened, leaf_lines, filled, named}
use Rattle.plan.specs.Parts.{right_start}
use Rattle.plan.specs.Truths.{combined, line_fits}
use Rattle.plan.specs.declared.node.Field.{Field}
use Rattle.plan.specs.declared.node.Op.{Op}
use Rattle.plan.specs.declared.node.Op.TheVariants.{Product, Union, Difference}
use Rattle.plan.proofs.Filled.{filled_opened, length_opened, matches_filled, opened_filled}
use Rattle.plan.proofs.Members.{kept_put, kept_pick, pairs_put, pairs_pick, line_in, line_has, row_in, row_has}

-- every line is this long
abbrev pub Long : ℕ → List (List ℕ) → Type 0
Long w ts = (t : List ℕ) → Memᴰ t ts → length t ≡ w

-- a test says whether a list has the line, if it says so of each member and each line of which it says so is one
has_if : (ts : List (List ℕ)) (t : List ℕ) (b : Bool) → (Memᴰ t ts → b ≡ true) → (b ≡ true → Memᴰ t ts) → has ts t ≡ b
has_if ts t b f g = same_tests (has ts t) b (λ h. f (line_in t ts h)) (λ h. line_has (g h))

pub has_kept : (p : List ℕ → Bool) (ts : List (List ℕ)) (t : List ℕ) → has (filter p ts) t ≡ (has ts t && p t)
has_kept p ts t = has_if (filter p ts) t (has ts t && p t)
    (λ m. let (i, k) = kept_pick p ts m in and_from (has ts t) (p t) (line_has i) k)
    (λ h. let (a, b) = and_parts (has ts t) (p t) h in kept_put p (line_in t ts a) b)

has_append : (ps qs : List (List ℕ)) (t : List ℕ) → has (ps ++ qs) t ≡ (has ps t || has qs t)
has_append ps qs t = has_if (ps ++ qs) t (has ps t || has qs t)
    (λ m. elim (Memᴰ.append_cases ps m) [ inl n ↦ or_left (has ps t) (has qs t) (line_has n) | inr n ↦ or_right (has ps t) (has qs t) (line_has n) ])
    (λ h. elim (or_cases (has ps t) (has qs t) h) [ inl e ↦ Memᴰ.append_left qs (line_in t ps e) | inr e ↦ Memᴰ.append_right ps (line_in t qs e) ])

-- a product's line is cut where the left line ends
has_pairs : (w : ℕ) (ps qs : List (List ℕ)) → Long w ps → (t : List ℕ) → has (lines_by Product ps qs) t ≡ (has ps (take w t) && has qs (drop w t))
has_pairs w ps qs long t = has_if (lines_by Product ps qs) t (has ps (take w t) && has qs (drop w t))
    (λ m. let (u, v, i, j, e) = pairs_pick ps qs t m in
    let first : take w t ≡ u = ap (take w) (sym e) ∙ take_at u v w (long u i) in
    let rest : drop w t ≡ v = ap (drop w) (sym e) ∙ drop_at u v w (long u i) in
    and_from (has ps (take w t)) (has qs (drop w t)) (subst (λ x. has ps x ≡ true) (sym first) (line_has i)) (subst (λ x. has qs x ≡ true) (sym rest) (line_has j)))
    (λ h. let (a, b) = and_parts (has ps (take w t)) (has qs (drop w t)) h in
    subst (λ x. Memᴰ x (lines_by Product ps qs)) (take-append-drop w t) (pairs_put (line_in (take w t) ps a) (line_in (drop w t) qs b)))

-- the part of a line that is a pair's, by the parts that are its nodes'
pub has_by : (op : Op) (ps qs : List (List ℕ)) (left right o : ℕ) (t : List ℕ) → Long left ps → alike op left right ≡ true →
    has (lines_by op ps qs) (take (width_by op left right) (drop o t)) ≡ combined op (has ps (take left (drop o t))) (has qs (take right (drop (right_start op o left) t)))
has_by Product ps qs left right o t long like =
    has_pairs left ps qs long (take (left + right) (drop o t)) ∙
    ap₂ (λ u v. has ps u && has qs v) (take-take left (left + right) (drop o t) (omega arith)) (drop-take left right (drop o t) ∙ ap (take right) (drop-drop left o t))
has_by Union ps qs left right o t long like =
    has_append ps qs (take left (drop o t)) ∙ ap (λ w. has ps (take left (drop o t)) || has qs (take w (drop o t))) (eqb-true left right like)
has_by Difference ps qs left right o t long like =
    has_kept (λ line. not (has qs line)) ps (take left (drop o t)) ∙ ap (λ w. has ps (take left (drop o t)) && not (has qs (take w (drop o t)))) (eqb-true left right like)

-- ---- a leaf
module _ (relation : ℕ) (fields : List Field) (rows : List Row) where
  abbrev Test : Row → Bool
  Test row = eqb relation row.relation && matches fields row.columns

  pub leaf_pick : (t : List ℕ) → Memᴰ t (leaf_lines relation fields rows) → (r : Row) × Memᴰ r rows × (Test r ≡ true) × (opened fields r.columns ≡ t)
  leaf_pick t m =
      let (r, n, e) = Memᴰ.of_map (λ (r : Row). opened fields r.columns) (filter Test rows) m in
      let (i, k) = kept_pick Test rows n in (r, i, k, e)

  pub leaf_put : (r : Row) (t : List ℕ) → Memᴰ r rows → Test r ≡ true → opened fields r.columns ≡ t → Memᴰ t (leaf_lines relation fields rows)
  leaf_put r t i good e = subst (λ u. Memᴰ u (leaf_lines relation fields rows)) e (Memᴰ.map (λ (r : Row). opened fields r.columns) (kept_put Test i good))

  pub long_leaf : Long (opens fields) (leaf_lines relation fields rows)
  long_leaf t m =
      let (r, i, k, e) = leaf_pick t m in
      sym (ap length e) ∙ length_opened fields r.columns (and_parts (eqb relation r.relation) (matches fields r.columns) k).1

  -- a leaf has the line exactly when the rows have the row that the line names there
  pub has_leaf : (t : List ℕ) → length t ≡ opens fields → has (leaf_lines relation fields rows) t ≡ among rows (named relation fields t)
  has_leaf t long = has_if (leaf_lines relation fields rows) t (among rows (named relation fields t))
      (λ m. let (r, i, k, o) = leaf_pick t m in
      let (a, b) = and_parts (eqb relation r.relation) (matches fields r.columns) k in
      let at : r.relation ≡ relation = sym (eqb-true relation r.relation a) in
      let columns : r.columns ≡ filled fields t = sym (filled_opened fields r.columns b) ∙ ap (filled fields) o in
      let is : r ≡ named relation fields t = (λ j. record { relation = at j; columns = columns j }) in
      row_has (subst (λ x. Memᴰ x rows) is i))
      (λ h. leaf_put (named relation fields t) t (row_in (named relation fields t) rows h)
      (and_from (eqb relation relation) (matches fields (filled fields t)) (eq-eqb relation relation refl) (matches_filled fields t long)) (opened_filled fields t long))

-- ---- lines as eight columns
zeros : (xs : List ℕ) → all (eqb 0) xs ≡ true → xs ≡ replicate (length xs) 0
zeros [] h = refl
zeros (x ∷ xs) h = let (a, b) = and_parts (eqb 0 x) (all (eqb 0) xs) h in ap₂ ◌∷◌ (sym (eqb-true 0 x a)) (zeros xs b)

all_zeros : (n : ℕ) → all (eqb 0) (replicate n 0) ≡ true
all_zeros zero = refl
all_zeros (suc n) = all_zeros n

-- eight columns are a line of the list exactly when they are zero from its width on, and their front is
pub has_padded : (ts : List (List ℕ)) (w : ℕ) (columns : List ℕ) → w ≤ 8 → Long w ts → has (map padded ts) columns ≡ (line_fits w columns && has ts (take w columns))
has_padded ts w columns eight long = has_if (map padded ts) columns (line_fits w columns && has ts (take w columns))
    (λ m. let (t, i, e) = Memᴰ.of_map padded ts m in
    let zero-part : List ℕ = replicate (8 - length t) 0 in
    let w-long : length t ≡ w = long t i in
    let first : take w columns ≡ t = ap (take w) (sym e) ∙ take_at t zero-part w w-long in
    let rest : drop w columns ≡ zero-part = ap (drop w) (sym e) ∙ drop_at t zero-part w w-long in
    let whole : length columns ≡ 8 = sym (ap length e) ∙ length-append t zero-part ∙ omega (arith, length-replicate {A = ℕ} (8 - length t) 0) in
    and_from (line_fits w columns) (has ts (take w columns))
    (and_from (eqb (length columns) 8) (zero_from w columns) (eq-eqb (length columns) 8 whole) (ap (all (eqb 0)) rest ∙ all_zeros (8 - length t))) (subst (λ x. has ts x ≡ true) (sym first) (line_has i)))
    (λ h. let (f, in-ts) = and_parts (line_fits w columns) (has ts (take w columns)) h in
    let (l, z) = and_parts (eqb (length columns) 8) (zero_from w columns) f in
    let whole : length columns ≡ 8 = eqb-true (length columns) 8 l in
    let short : length (take w columns) ≡ w = length-take-le w columns (omega arith) in
    let left : length (drop w columns) ≡ 8 - length (take w columns) = length-drop w columns ∙ omega arith in
    let same : padded (take w columns) ≡ columns = ap (λ r. take w columns ++ r) (ap (λ n. replicate n 0) (sym left) ∙ sym (zeros (drop w columns) z)) ∙ take-append-drop w columns in
    subst (λ x. Memᴰ x (map padded ts)) same (Memᴰ.map padded (line_in (take w columns) ts in-ts)))
