-- How the columns of a leaf are gone through.
use Rattle.std.proofs.Common.{◌≡◌, ℕ, ◌+◌, ◌≤◌, Bool, true, false, ◌&&◌, ltb, nat_le, List, [], ◌∷◌, length, sym, refl, ap, ◌∙◌, zero-add, arith}
use lib.ListN.{length-map}
use Rattle.std.specs.List.{list_all, enumerate_from}
use Rattle.std.proofs.lemmas.Bool.Decides.{nat_tests}
use Rattle.std.proofs.lemmas.List.Sums.{count_by-le-length}
use Rattle.words.specs.declared.separators.Separator.TheVariants.{Comma}
use Rattle.words.specs.Language.{Placed, separates, every, texts, parts_of, is_column, is_columns}
use Rattle.words.proofs.Cuts.{cut_parts, length_cut}

-- columns from place n on: none stands at place 4, and each has its form
in_order : (n : ℕ) (ps : List Placed) → n ≤ 4 → list_all (λ p. ltb p.0 4 && is_column p.1.text) (enumerate_from n ps) ≡ (nat_le (n + length (texts ps)) 4 && every is_column (texts ps))
in_order n [] h = grind (arith, nat_tests)
in_order n (p ∷ ps) h = by (ltb n 4) (is_column p.text) refl (λ k. in_order (n + 1) ps k)
  where
    by : (t b : Bool) → ltb n 4 ≡ t → (n + 1 ≤ 4 → list_all (λ p. ltb p.0 4 && is_column p.1.text) (enumerate_from (n + 1) ps) ≡ (nat_le (n + 1 + length (texts ps)) 4 && every is_column (texts ps))) → (t && b && list_all (λ p. ltb p.0 4 && is_column p.1.text) (enumerate_from (n + 1) ps)) ≡ (nat_le (n + length (texts (p ∷ ps))) 4 && (b && every is_column (texts ps)))
    by true true e others = let h = others (grind (arith, nat_tests)) in grind (arith, nat_tests)
    by true false e others = grind (arith, nat_tests)
    by false b e others = grind (arith, nat_tests)

-- no more columns than bytes, and one
pub few : (text : List ℕ) → length (parts_of Comma text) ≤ length text + 1
few text =
    let whole = cut_parts Comma text (parts_of Comma text) refl in
    omega (arith, ap length whole, length-map (parts_of Comma text) (λ p. p.text), length_cut (separates Comma) text, count_by-le-length (separates Comma) text)

-- the columns in their order are one to four
pub all_in_order : (text : List ℕ) → list_all (λ p. ltb p.0 4 && is_column p.1.text) (enumerate_from 0 (parts_of Comma text)) ≡ is_columns text
all_in_order text =
    in_order 0 (parts_of Comma text) (omega arith)
    ∙ ap (λ ps. nat_le (0 + length ps) 4 && every is_column ps) (sym (cut_parts Comma text _ refl)) ∙ rw zero-add refl
