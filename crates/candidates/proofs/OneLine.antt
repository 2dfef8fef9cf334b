-- The line of one row at a leaf.
use Rattle.std.proofs.Common.{◌≡◌, ℕ, ◌+◌, ◌-◌, ◌≤◌, true, cond, ◌&&◌, eqb, List, [], ◌∷◌, ◌++◌, map, length, get_or, drop, replicate, Some, sym, ap, ◌∙◌, arith, inl, inr, length-append, length-drop, get_or-drop}
use Rattle.std.proofs.lemmas.List.{take_at, length-replicate, get_or-append_right, get_or-replicate, get_or_past}
use Rattle.std.proofs.lemmas.Bool.{and_from, eq-eqb, cases_lt}
use Rattle.store.specs.declared.row.Row.{Row}
use Rattle.plan.specs.Leaves.{opens, matches, opened, leaf_lines}
use Rattle.candidates.specs.Seeking.{Single}
use Rattle.plan.specs.declared.node.Field.{Field}
use Rattle.plan.proofs.Filled.{length_opened}

zero_at : (n k : ℕ) → get_or {A = ℕ} (replicate n 0) k 0 ≡ 0
zero_at n k = elim (cases_lt k n) [ inl h ↦ get_or-replicate n k 0 0 h | inr h ↦ get_or_past (replicate n 0) k 0 (omega (arith, length-replicate {A = ℕ} n 0)) ]

-- the one line of a row at a leaf: its open columns, and then zeros
pub one_line : (relation : ℕ) (fs : List Field) (row : Row) → row.relation ≡ relation → matches fs row.columns ≡ true → (line : List ℕ) → line ≡ opened fs row.columns → (n : ℕ) → length line ≡ n → n ≤ 8 →
    Single (leaf_lines relation fs (row ∷ [])) (opens fs) (Some (line ++ drop n (replicate 8 0)))
one_line relation fs row same good line is n long few =
    let wide : n ≡ opens fs = sym long ∙ ap length is ∙ length_opened fs row.columns good in
    let passes : (eqb relation row.relation && matches fs row.columns) ≡ true = and_from (eqb relation row.relation) (matches fs row.columns) (eq-eqb relation row.relation (sym same)) good in (
      ap (λ b. map (λ (r : Row). opened fs r.columns) (cond b (row ∷ []) [])) passes ∙ ap (λ t. t ∷ []) (sym is ∙ sym (take_at line (drop n (replicate 8 0)) (opens fs) (long ∙ wide))),
      length-append line (drop n (replicate 8 0)) ∙ omega (arith, length-drop {A = ℕ} n (replicate 8 0)),
      (λ k h. get_or-append_right line (drop n (replicate 8 0)) n k 0 long (omega arith) ∙ get_or-drop n (replicate 8 0) (k - n) 0 ∙ zero_at 8 (n + (k - n))),
    )
