-- `a5_forward_with` meets its contract: with the table's rows it is forward. Assumes nothing.
use Rattle.std.proofs.Common.{rules}
use Rattle.border.proofs.Tables.{with_rows_on}
use Rattle.exports_calls.proofs.a5_forward_with.Goals as goal

pub returns : goal.returns
returns c = record {
  returns = rw (with_rows_on _ _ _ _ c.in-Ok.ensures) c.forward.ensures.returns.returns;
  left = search (rules, with_rows_on);
}
