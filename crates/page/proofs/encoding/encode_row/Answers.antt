use Rattle.std.proofs.Common.{◌≡◌, ℕ, ◌+◌, ◌-◌, ◌*◌, List, ap, ap₂, ◌∙◌, rules, arith}
use borrow.Rule.Slice.PartMut.{put_mid}
use Rattle.page.specs.Records.{place_of, Proper}
use Rattle.page.proofs.Spelling.{column_more, columns_done}
use Rattle.page.proofs.Exact.{row_back}
use Rattle.page.proofs.encoding.encode_row.Goals as goal

pub loop-column-preserved : goal.loop-column-preserved
loop-column-preserved c =
    let start = 4 + 4 * c.loop-column.column in
    let four : (start + 4) - start ≡ 4 = omega arith in
    record {
      proper = λ _. record { relation = omega arith; count = omega arith; columns = search rules };
      spelled =
          ap₂ (λ (k : ℕ) (bytes : List ℕ). put_mid start k c.loop-column.record bytes) four (c.copy_from_slice-in-loop-column.ensures.after ∙ c.to_be_bytes-in-loop-column.ensures)
          ∙ column_more _ c.args.row.now.columns c.loop-column.record c.loop-column.column 0 (simp (c.copy_from_slice.ensures.after, c.copy_from_slice-2.ensures.after, c.to_be_bytes.ensures)) (omega arith) c.loop-column.invariant.spelled;
    }

pub returns : goal.returns
returns c =
    let row = c.args.row.now in
    let proper : Proper row = c.loop-column.invariant.proper (omega arith) in
    let spelled = c.loop-column.invariant.spelled ∙ columns_done _ row.columns c.loop-column.column proper.count (omega arith) ∙ simp (c.copy_from_slice.ensures.after, c.copy_from_slice-2.ensures.after, c.to_be_bytes.ensures) in
    record { bytes = spelled; back = ap place_of spelled ∙ row_back row proper }
