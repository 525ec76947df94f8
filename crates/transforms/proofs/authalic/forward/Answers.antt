-- `authalic::forward` meets its contract: the coefficients are those from geodetic to authalic. Assumes nothing.
use mathlib.Core.Path.{◌≡◌}
use lib.Ieee.{of_bits}
use Rattle.arithmetic.specs.Arith.{ieee}
use Rattle.coordinates.specs.Authalic.{apply_coefficients, authalic_forward}
use Rattle.coordinates.specs.Constants.{GEODETIC_TO_AUTHALIC}
use Rattle.coordinates.specs.declared.base.Radians.{Radians}
use Rattle.transforms.proofs.authalic.forward.Goals as goal

by_table : (phi r : Radians) → r ≡ apply_coefficients ieee phi GEODETIC_TO_AUTHALIC → r ≡ authalic_forward ieee phi
unfolding authalic_forward
by_table _ _ e = e

pub returns : goal.returns
unfolding GEODETIC_TO_AUTHALIC of_bits
returns c = by_table c.args.phi c.apply_coefficients.result c.apply_coefficients.ensures
