-- How large the angles are that the changes of coordinates give: at most 16 for every vector and every face point, at most 24 for every position
-- that a check passes. Assumes nothing.
use mathlib.Core.Path.{◌≡◌}
use mathlib.Core.Bool.{false}
use mathlib.Core.List.{List}
use lib.IntN.{pos, negsuc}
use lib.Dec.{T}
use lib.ListN.{get_or}
use lib.Ieee.{Float, nan, fin, binary64, add, sub, mul, div, le, of_bits, fits}
use lib.Ieee.Fits.{mul-fits}
use Rattle.answer.specs.Given.{passed}
use Rattle.arithmetic.specs.Arith.{ieee}
use Rattle.arithmetic.specs.Sqrt.{sqrt}
use Rattle.arithmetic.proofs.Bounds.{Within, own, wider, le_within, between_within, mul_within, add_within, sub_within}
use Rattle.arithmetic.proofs.Bounded.{Bounded, bounded, broader, add_bounded, sub_bounded, div_bounded}
use Rattle.elementary.specs.Constants.{PI, FRAC_PI_2}
use Rattle.elementary.specs.Sine.{outside}
use Rattle.elementary.proofs.Sizes.{12·0, 16·0, atan_small, atan2_small}
use Rattle.elementary.proofs.Inside.{64·0, quarter_over, sin_cos_small, inside, inside_bounded, inside_by}
use Rattle.coordinates.specs.Authalic.{recurrence, apply_coefficients, authalic_forward}
use Rattle.coordinates.specs.Constants.{2·0, 8·0, 90·0, 180·0, 360·0, LONGITUDE_OFFSET, GEODETIC_TO_AUTHALIC}
use Rattle.coordinates.specs.Conversions.{check_lon_lat, check_spherical}
use Rattle.coordinates.specs.CoordinateTransforms.{deg_to_rad, to_polar, to_spherical, from_lon_lat}
use Rattle.coordinates.specs.Gnomonic.{gnomonic_inverse}
use Rattle.coordinates.specs.declared.base.Radians.{Radians}
use Rattle.coordinates.specs.declared.coords.Cartesian.{Cartesian}
use Rattle.coordinates.specs.declared.coords.Face.{Face}
use Rattle.coordinates.specs.declared.lonlat.LonLat.{LonLat}
use Rattle.coordinates.specs.declared.polar.Polar.{Polar}
use Rattle.coordinates.specs.declared.spherical.Spherical.{Spherical}
use Rattle.coordinates.proofs.Passed.{passed_longitude, passed_latitude, passed_theta, passed_phi}

-- ---- from atan and atan2, for every argument

pub polar_gamma : (p : Face) → Bounded (to_polar ieee p).gamma.0 16·0
unfolding to_polar
polar_gamma p = atan2_small p.0.y p.0.x

pub spherical_phi : (c : Cartesian) → Bounded (to_spherical ieee c).phi.0 16·0
unfolding to_spherical
spherical_phi c =
    let x = c.0.x in
    let y = c.0.y in
    atan2_small (sqrt (add binary64 (mul binary64 x x) (mul binary64 y y))) c.0.z

pub gnomonic_phi : (p : Polar) → Bounded (gnomonic_inverse ieee p).phi.0 12·0
unfolding gnomonic_inverse
gnomonic_phi p = atan_small p.rho

-- 24.0
abbrev pub 24·0 : Float
24·0 = fin false 3 (pos 3)

eight_24 : Within 8·0 24·0
unfolding of_bits le
eight_24 = le_within 8·0 24·0 tt tt tt tt

sixteen_24 : Within 16·0 24·0
unfolding le
sixteen_24 = le_within 16·0 24·0 tt tt tt tt

-- ---- from_lon_lat

latitude_small : {x : Float} → Within x 90·0 → Within (mul binary64 x (div binary64 PI 180·0)) quarter_over
unfolding mul div le PI of_bits
latitude_small w =
    wider (mul_within binary64 w (own (div binary64 PI 180·0) tt tt) tt)
    (le_within (mul binary64 90·0 (div binary64 PI 180·0)) quarter_over tt tt tt tt)

longitude_small : {x : Float} → Within x 360·0 → Within (mul binary64 (add binary64 x LONGITUDE_OFFSET) (div binary64 PI 180·0)) 8·0
unfolding add mul div le PI of_bits
longitude_small w =
    wider (mul_within binary64 (add_within binary64 w (own LONGITUDE_OFFSET tt tt) tt) (own (div binary64 PI 180·0) tt tt) tt)
    (le_within (mul binary64 (add binary64 360·0 LONGITUDE_OFFSET) (div binary64 PI 180·0)) 8·0 tt tt tt tt)

-- the coefficients' sizes are below these powers of 2
abbrev c0 : Float
c0 = fin false 1 (negsuc 7)

abbrev c1 : Float
c1 = fin false 1 (negsuc 17)

abbrev c2 : Float
c2 = fin false 1 (negsuc 27)

abbrev c3 : Float
c3 = fin false 1 (negsuc 37)

abbrev c4 : Float
c4 = fin false 1 (negsuc 46)

abbrev c5 : Float
c5 = fin false 1 (negsuc 56)

record Coefficients (c : List Float) : Type 0 where
  at0 : Within (get_or c 0 nan) c0
  at1 : Within (get_or c 1 nan) c1
  at2 : Within (get_or c 2 nan) c2
  at3 : Within (get_or c 3 nan) c3
  at4 : Within (get_or c 4 nan) c4
  at5 : Within (get_or c 5 nan) c5

forward_coefficients : Coefficients GEODETIC_TO_AUTHALIC
unfolding GEODETIC_TO_AUTHALIC of_bits le
forward_coefficients =
    record {
      at0 = between_within (get_or GEODETIC_TO_AUTHALIC 0 nan) 1 (negsuc 7) tt tt;
      at1 = between_within (get_or GEODETIC_TO_AUTHALIC 1 nan) 1 (negsuc 17) tt tt;
      at2 = between_within (get_or GEODETIC_TO_AUTHALIC 2 nan) 1 (negsuc 27) tt tt;
      at3 = between_within (get_or GEODETIC_TO_AUTHALIC 3 nan) 1 (negsuc 37) tt tt;
      at4 = between_within (get_or GEODETIC_TO_AUTHALIC 4 nan) 1 (negsuc 46) tt tt;
      at5 = between_within (get_or GEODETIC_TO_AUTHALIC 5 nan) 1 (negsuc 56) tt tt;
    }

-- the multiplier x
abbrev x_most : Float
x_most = mul binary64 (mul binary64 2·0 (add binary64 12·0 12·0)) (add binary64 12·0 12·0)

multiplier : {s c : Float} → Within s 12·0 → Within c 12·0 → Within (mul binary64 (mul binary64 2·0 (sub binary64 c s)) (add binary64 c s)) x_most
unfolding mul add of_bits
multiplier v w = mul_within binary64 (mul_within binary64 (own 2·0 tt tt) (sub_within binary64 w v tt) tt) (add_within binary64 w v tt) tt

-- the five steps come to 1/16 at most
abbrev u_most : Float
u_most = fin false 1 (negsuc 3)

abbrev five : Float → List Float → Float
five x c =
    recurrence (add binary64) (sub binary64) (mul binary64) x
    (get_or c 0 nan) (get_or c 1 nan) (get_or c 2 nan) (get_or c 3 nan) (get_or c 4 nan) (get_or c 5 nan)

steps : {x : Float} (c : List Float) → Within x x_most → Coefficients c → Within (five x c) u_most
unfolding recurrence mul add le of_bits
steps c x k =
    let s1 = add_within binary64 (mul_within binary64 x k.at5 tt) k.at4 tt in
    let s2 = add_within binary64 (sub_within binary64 (mul_within binary64 x s1 tt) k.at5 tt) k.at3 tt in
    let s3 = add_within binary64 (sub_within binary64 (mul_within binary64 x s2 tt) s1 tt) k.at2 tt in
    let s4 = add_within binary64 (sub_within binary64 (mul_within binary64 x s3 tt) s2 tt) k.at1 tt in
    let u = add_within binary64 (sub_within binary64 (mul_within binary64 x s4 tt) s3 tt) k.at0 tt in
    wider u (le_within _ u_most tt tt tt tt)

-- 20.0, which 1.58 + 2 * 12 * 12 / 16 does not reach
abbrev pub 20·0 : Float
20·0 = fin false 5 (pos 2)

authalic_sum : {x s c u : Float} → Within x quarter_over → Within s 12·0 → Within c 12·0 → Within u u_most
    → Within (add binary64 x (mul binary64 (mul binary64 (mul binary64 2·0 s) c) u)) 20·0
unfolding mul add le of_bits
authalic_sum x s c u =
    wider (add_within binary64 x (mul_within binary64 (mul_within binary64 (mul_within binary64 (own 2·0 tt tt) s tt) c tt) u tt) tt)
    (le_within (add binary64 quarter_over (mul binary64 (mul binary64 (mul binary64 2·0 12·0) 12·0) u_most)) 20·0 tt tt tt tt)

authalic_small : (phi : Radians) → T (fits binary64 phi.0) → Within phi.0 quarter_over → Within (authalic_forward ieee phi).0 20·0
unfolding authalic_forward apply_coefficients
authalic_small phi h w =
    let p = sin_cos_small h w in
    authalic_sum w p.sine p.cosine (steps GEODETIC_TO_AUTHALIC (multiplier p.sine p.cosine) forward_coefficients)

from_pole : {x : Float} → Within x 20·0 → Within (sub binary64 FRAC_PI_2 x) 24·0
unfolding FRAC_PI_2 of_bits add le
from_pole w = wider (sub_within binary64 (own FRAC_PI_2 tt tt) w tt) (le_within (add binary64 FRAC_PI_2 20·0) 24·0 tt tt tt tt)

module _ (p : LonLat) (e : check_lon_lat p ≡ passed) where
  pub from_lon_lat_theta : Within (from_lon_lat ieee p).theta.0 8·0
  unfolding from_lon_lat
  from_lon_lat_theta = longitude_small (passed_longitude p e)

  pub from_lon_lat_phi : Within (from_lon_lat ieee p).phi.0 24·0
  unfolding from_lon_lat deg_to_rad
  from_lon_lat_phi =
      let held = mul-fits binary64 p.latitude.0 (div binary64 PI 180·0) in
      from_pole (authalic_small (deg_to_rad ieee p.latitude) held (latitude_small (passed_latitude p e)))

  -- what sine takes in transforms::authalic::forward
  pub latitude_inside : outside (deg_to_rad ieee p.latitude).0 ≡ false
  unfolding deg_to_rad le
  latitude_inside = inside_by (mul binary64 p.latitude.0 (div binary64 PI 180·0)) (bounded (latitude_small (passed_latitude p e))) tt tt tt

-- ---- what sine takes elsewhere

-- in transforms::authalic::inverse
pub colatitude_inside : (x : Float) → Bounded x 24·0 → outside (sub binary64 FRAC_PI_2 x) ≡ false
unfolding FRAC_PI_2 of_bits add le
colatitude_inside x h = inside_by (sub binary64 FRAC_PI_2 x) (sub_bounded binary64 (bounded (own FRAC_PI_2 tt tt)) h tt) tt tt tt

-- in haversine: half the difference of two angles that are not outside is not outside
half_difference : {x y : Float} → Bounded x 64·0 → Bounded y 64·0 → Bounded (div binary64 (sub binary64 y x) 2·0) 64·0
unfolding add div of_bits
half_difference v w = div_bounded binary64 (sub_bounded binary64 w v tt) (own 2·0 tt tt) tt tt

pub half_inside : (x y : Float) → outside x ≡ false → outside y ≡ false → outside (div binary64 (sub binary64 y x) 2·0) ≡ false
half_inside x y h j = inside (div binary64 (sub binary64 y x) 2·0) (half_difference (inside_bounded x h) (inside_bounded y j))

pub turned_on : {x a : Float} → Bounded x 16·0 → Bounded a 8·0 → Bounded (add binary64 x a) 24·0
unfolding add of_bits
turned_on v w = add_bounded binary64 v w tt

-- by these bounds
pub inside_8 : (x : Float) → Bounded x 8·0 → outside x ≡ false
unfolding of_bits le
inside_8 x h = inside_by x h tt tt tt

pub inside_12 : (x : Float) → Bounded x 12·0 → outside x ≡ false
unfolding le
inside_12 x h = inside_by x h tt tt tt

pub inside_16 : (x : Float) → Bounded x 16·0 → outside x ≡ false
unfolding le
inside_16 x h = inside_by x h tt tt tt

pub inside_24 : (x : Float) → Bounded x 24·0 → outside x ≡ false
unfolding le
inside_24 x h = inside_by x h tt tt tt

-- ---- a position that the check passes

module _ (s : Spherical) (e : check_spherical s ≡ passed) where
  pub passed_inside : (outside s.theta.0 ≡ false) × (outside s.phi.0 ≡ false)
  passed_inside = (inside_8 s.theta.0 (bounded (passed_theta s e)), inside_8 s.phi.0 (bounded (passed_phi s e)))

  pub passed_colatitude : outside (sub binary64 FRAC_PI_2 s.phi.0) ≡ false
  passed_colatitude = colatitude_inside s.phi.0 (broader (bounded (passed_phi s e)) eight_24)

-- from_lon_lat's position, and to_spherical's
pub from_lon_lat_inside : (p : LonLat) → check_lon_lat p ≡ passed
    → (outside (from_lon_lat ieee p).theta.0 ≡ false) × (outside (from_lon_lat ieee p).phi.0 ≡ false)
from_lon_lat_inside p e =
    let s = from_lon_lat ieee p in
    (inside_8 s.theta.0 (bounded (from_lon_lat_theta p e)), inside_24 s.phi.0 (bounded (from_lon_lat_phi p e)))

pub spherical_colatitude : (c : Cartesian) → outside (sub binary64 FRAC_PI_2 (to_spherical ieee c).phi.0) ≡ false
spherical_colatitude c = colatitude_inside (to_spherical ieee c).phi.0 (broader (spherical_phi c) sixteen_24)
