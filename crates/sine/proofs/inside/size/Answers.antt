-- `inside::size` meets its contract: a finite value is no NaN, and the sign bit is cleared. Assumes nothing.
use Rattle.elementary.proofs.SignBit.{cleared, cleared_number}
use Rattle.elementary.proofs.RemainderValues.{finite_number}
use Rattle.sine.proofs.inside.size.Goals as goal

pub float_to_bits-result : goal.float_to_bits-result
float_to_bits-result c = finite_number c.args.q c.requires

pub float_from_bits-result : goal.float_from_bits-result
float_from_bits-result c = cleared_number c.args.q (rw c.well_formed.0.1 tt) (float_to_bits-result c)

pub returns : goal.returns
returns c = cleared c.args.q (rw c.well_formed.0.1 tt) (float_to_bits-result c)
