-- `a5_unplace_with` meets its contract: with the table's rows it is unplace. Assumes nothing.
use Rattle.std.proofs.Common.{rules}
use Rattle.border.proofs.Tables.{with_rows_on}
use Rattle.exports_place.proofs.a5_unplace_with.Goals as goal

pub returns : goal.returns
returns c = record {
  returns = rw (with_rows_on _ _ _ _ c.in-Ok.ensures) c.unplace.ensures.returns.returns;
  left = search (rules, with_rows_on);
}
