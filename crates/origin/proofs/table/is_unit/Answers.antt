-- `table::is_unit` meets its contract. Assumes nothing.
use lib.Ieee.{of_bits}
use Rattle.origin.specs.Table.{is_unit, 1e-12}
use Rattle.origin.proofs.table.is_unit.Goals as goal

pub returns : goal.returns
unfolding is_unit 1e-12 of_bits
returns c = c.within.ensures
