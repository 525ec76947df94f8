-- `candidates::around` meets its contract. Assumes nothing.
use lib.Ieee.{of_int, of_bits}
use Rattle.elementary.specs.Constants.{PI}
use Rattle.crs.specs.Candidates.{around}
use Rattle.crs.proofs.Sizes.{around_inside}
use Rattle.crs.proofs.candidates.around.Goals as goal

pub returns : goal.returns
unfolding around of_int PI
returns c = rw (c.transform_quat.ensures, c.to_cartesian.ensures, c.from.ensures)

pub to_cartesian-requires : goal.to_cartesian-requires
unfolding PI of_bits
to_cartesian-requires c = let h = c.requires in rw c.from.ensures (around_inside _ _ h.0 h.1, h.2)
