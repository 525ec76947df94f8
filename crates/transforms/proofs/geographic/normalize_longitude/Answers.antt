-- `geographic::normalize_longitude` meets its contract. Assumes nothing.
use mathlib.Core.Path.{refl}
use lib.Ieee.{of_bits}
use Rattle.arithmetic.specs.Arith.{ieee}
use Rattle.coordinates.specs.CoordinateTransforms.{normalize_longitude}
use Rattle.transforms.proofs.geographic.normalize_longitude.Goals as goal

pub returns : goal.returns
unfolding normalize_longitude of_bits
returns c = rw (c.remainder.ensures, c.remainder-turned.ensures) (refl {a = normalize_longitude ieee c.args.lon})
