-- `geographic::to_lon_lat` meets its contract. Assumes nothing.
use mathlib.Core.Path.{refl}
use lib.Ieee.{of_bits}
use Rattle.arithmetic.specs.Arith.{ieee}
use Rattle.elementary.specs.Constants.{FRAC_PI_2}
use Rattle.coordinates.specs.CoordinateTransforms.{to_lon_lat}
use Rattle.transforms.proofs.geographic.to_lon_lat.Goals as goal

pub returns : goal.returns
unfolding FRAC_PI_2 to_lon_lat of_bits
returns c =
    rw (c.normalize_longitude-longitude.ensures, c.rad_to_deg-degrees.ensures, c.rad_to_deg-latitude.ensures, c.inverse-geodetic_lat.ensures)
    (refl {a = to_lon_lat ieee c.args.spherical})
