-- `spherical_polygon::spherical_triangle_area_and_sqrt` meets its contract: the angle is half the area. Assumes nothing.
use mathlib.Core.Path.{refl}
use lib.Ieee.{of_bits}
use Rattle.arithmetic.specs.Arith.{ieee}
use Rattle.equal_area.specs.SphericalPolygon.{spherical_triangle_area}
use Rattle.equal_area.proofs.spherical_polygon.spherical_triangle_area_and_sqrt.Goals as goal

pub returns : goal.returns
unfolding spherical_triangle_area of_bits
returns c =
    let found = c.atan2_and_sqrt-found.ensures in
    (rw (found.0, c.triple_product-triple.ensures, c.norm.ensures) (refl {a = spherical_triangle_area ieee c.args.v1 c.args.v2 c.args.v3}), found.1)
