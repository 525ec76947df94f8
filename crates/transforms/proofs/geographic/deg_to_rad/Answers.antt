-- `geographic::deg_to_rad` meets its contract. Assumes nothing.
use mathlib.Core.Path.{refl}
use lib.Ieee.{of_bits}
use Rattle.arithmetic.specs.Arith.{ieee}
use Rattle.coordinates.specs.CoordinateTransforms.{deg_to_rad}
use Rattle.transforms.proofs.geographic.deg_to_rad.Goals as goal

pub returns : goal.returns
unfolding deg_to_rad of_bits
returns c = refl {a = deg_to_rad ieee c.args.deg}
