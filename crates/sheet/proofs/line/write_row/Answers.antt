-- `line::write_row` meets its contract. Assumes nothing.
use native.Mathlib.Omega.{arith}
use Rattle.decimal.specs.Decimal.{decimal}
use Rattle.sheet.specs.Page.{right_aligned}
use Rattle.decimal.proofs.Columns.{length_aligned}
use Rattle.sheet.proofs.Lines.{with_origin, with_number}
use Rattle.sheet.proofs.line.write_row.Goals as goal

pub returns : goal.returns
returns c =
    let a = c.args in
    let left = right_aligned 2 (decimal a.origin) in
    let named-is = with_origin _ _ a.origin c.write_blank.ensures c.write_number.ensures in
    with_number left _ _ a.count (omega (arith, length_aligned 2 (decimal a.origin))) named-is c.write_number-2.ensures
