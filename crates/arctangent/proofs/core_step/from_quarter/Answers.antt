-- `core_step::from_quarter` meets its contract: its coefficients are the definition's. Assumes nothing.
use lib.Ieee.{of_bits}
use Rattle.elementary.specs.Constants.{core_first, core_rest}
use Rattle.arctangent.proofs.core_step.from_quarter.Goals as goal

pub returns : goal.returns
unfolding core_first core_rest of_bits
returns c = rw c.series.ensures
