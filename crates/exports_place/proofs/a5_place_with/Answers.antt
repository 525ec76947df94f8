-- `a5_place_with` meets its contract: with the table's rows it is place. Assumes nothing.
use Rattle.std.proofs.Common.{rules}
use Rattle.border.proofs.Tables.{with_rows_on}
use Rattle.exports_place.proofs.a5_place_with.Goals as goal

pub returns : goal.returns
returns c = record {
  returns = rw (with_rows_on _ _ _ _ c.in-Ok.ensures) c.place.ensures.returns.returns;
  left = search (rules, with_rows_on);
}
