-- `tables::a5_nearest_with` meets its contract: what is put is what nearest gave for the table. Assumes nothing.
use mathlib.Core.Path.{sym, ap, ◌∙◌}
use mathlib.Core.List.{List}
use lib.Ieee.{Float}
use Rattle.answer.specs.Answer.{given as Answer·given}
use Rattle.arithmetic.specs.Arith.{ieee}
use Rattle.nearest.specs.Calls.{nearest_given}
use Rattle.border.specs.Calls.{spherical}
use Rattle.border.proofs.Tables.{with_rows}
use Rattle.exports.proofs.tables.a5_nearest_with.Goals as goal

pub returns : goal.returns
returns c =
    let a = c.args in
    let rows = ap Answer·given (sym c.in-Ok.is) ∙ c.rows_or_20.ensures in
    let table = with_rows (λ (t : List Float). nearest_given ieee t (spherical a.theta a.phi)) _ _ rows in
    rw (table, ← c.spherical.ensures, ← c.nearest-nearest.ensures) c.put.ensures
