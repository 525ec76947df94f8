-- Both conversions as calls (document 01, "Calls and their numbers"): what they give, value or number. Definitions only.
use Rattle.std.specs.Prelude.{not, ◌&&◌}
use Rattle.answer.specs.Given.{Given, answered, refuse_if, and_then}
use Rattle.answer.specs.Number.{is_finite, check_number}
use Rattle.arithmetic.specs.Arith.{Arith}
use Rattle.arithmetic.specs.Numbers.{4·0}
use Rattle.coordinates.specs.Constants.{8·0, 90·0, 360·0}
use Rattle.coordinates.specs.CoordinateTransforms.{from_lon_lat, to_lon_lat}
use Rattle.coordinates.specs.declared.coords.Face.{Face}
use Rattle.coordinates.specs.declared.lonlat.LonLat.{LonLat}
use Rattle.coordinates.specs.declared.spherical.Spherical.{Spherical}

-- "Ranges, ends included: longitude ±360, latitude ±90, theta and phi ±8, face x and y ±4", in this order, each number for 5 and then 6
unfoldable pub check_lon_lat : LonLat → Given (Unit {0})
check_lon_lat p = and_then (check_number p.longitude.0 360·0) (check_number p.latitude.0 90·0)

unfoldable pub check_spherical : Spherical → Given (Unit {0})
check_spherical s = and_then (check_number s.theta.0 8·0) (check_number s.phi.0 8·0)

unfoldable pub check_face : Face → Given (Unit {0})
check_face p = and_then (check_number p.0.x 4·0) (check_number p.0.y 4·0)

-- 9: the answer would have a number that isn't finite
unfoldable pub finite_spherical : Spherical → Given Spherical
finite_spherical s = refuse_if (not (is_finite s.theta.0 && is_finite s.phi.0)) 9 (answered s)

unfoldable pub finite_lon_lat : LonLat → Given LonLat
finite_lon_lat p = refuse_if (not (is_finite p.longitude.0 && is_finite p.latitude.0)) 9 (answered p)

unfoldable pub finite_face : Face → Given Face
finite_face p = refuse_if (not (is_finite p.0.x && is_finite p.0.y)) 9 (answered p)

module _ (A : Arith) where
  unfoldable pub from_lon_lat_given : LonLat → Given Spherical
  from_lon_lat_given p = and_then (check_lon_lat p) (finite_spherical (from_lon_lat A p))

  unfoldable pub to_lon_lat_given : Spherical → Given LonLat
  to_lon_lat_given s = and_then (check_spherical s) (finite_lon_lat (to_lon_lat A s))
