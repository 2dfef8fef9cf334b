use Rattle.std.proofs.Common.{◌≡◌, ℕ, ◌+◌, ◌/◌, List, [], map, length, get_or, true, Some, None, sym, refl, ap, ◌∙◌, subst, rules}
use Rattle.std.proofs.lemmas.Bool.{cond-true}
use Rattle.std.specs.List.{range_with_len}
use Rattle.std.specs.Simd.{first_chunks}
use Rattle.store.specs.declared.row.Row.{Row}
use Rattle.page.specs.Records.{marks_row, four_at, row_in}
use Rattle.page.proofs.Exact.{twenty}
use Rattle.page.proofs.Made.{made}
use Rattle.page.proofs.record.decode.Goals as goal

-- the column at a place is the number that the next word but one spells
abbrev column : List (List ℕ) → ℕ → ℕ
column words i = four_at (get_or words (i + 1) []) 0

columns_are : (bytes : List ℕ) → length bytes ≡ 20 → map (column (first_chunks 4 (length bytes / 4) bytes)) (range_with_len 0 4) ≡ (row_in bytes).columns
columns_are bytes long = subst (λ (bs : List ℕ). map (column (first_chunks 4 (length bs / 4) bs)) (range_with_len 0 4) ≡ (row_in bs).columns) (sym (twenty bytes long)) refl

pub returns : goal.returns
returns c =
    let bytes = c.args.record.now in
    let marked : marks_row bytes ≡ true = search rules in
    let relation = c.from_be_bytes.ensures in
    let columns = made (column c.as_chunks.result.0.now) _ (λ i y q k. search rules) _ _ c.from_fn.ensures.items
    ∙ ap (λ (words : List (List ℕ)). map (column words) (range_with_len 0 4)) c.as_chunks.ensures.front ∙ columns_are bytes c.told-record in
    let row : ◌≡◌ {A = Row} (record { relation = c.from_be_bytes.result; columns = c.from_fn.result }) (row_in bytes) = λ i. record { relation = relation i; columns = columns i } in
    ap Some row ∙ sym (cond-true (marks_row bytes) (Some (row_in bytes)) None marked)
