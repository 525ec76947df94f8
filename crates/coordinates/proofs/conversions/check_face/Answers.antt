-- `check_face` meets its contract: the definition has the code's tests; 4.0 is written there by its bits. Assumes nothing.
use Rattle.std.proofs.Common.{rules}
use lib.Ieee.{of_bits}
use Rattle.coordinates.specs.Conversions.{check_face}
use Rattle.coordinates.proofs.conversions.check_face.Goals as goal

pub returns-in_err-check_number : goal.returns-in_err-check_number
unfolding check_face of_bits
returns-in_err-check_number c = search rules

pub returns : goal.returns
unfolding check_face of_bits
returns c = rw (← c.in_ok-check_number.ensures) c.check_number-2.ensures
