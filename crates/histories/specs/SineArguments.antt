-- Paper 7: "Only the angle from the area share in inverse can meet it." Every other sine, cosine and tangent of the calls, by the function that takes
-- it: its argument is not a finite number beyond ±64, for every accepted argument, every origin of every table that passes 21, and every
-- content of the buffers. (The code cannot
-- leave one out: the function that it calls there asks for this very fact.) Definitions only.
use Rattle.std.specs.Prelude.{◌≡◌, ℕ, ◌<◌, false, List, Float}
use Rattle.answer.specs.Given.{passed, answered}
use Rattle.arithmetic.specs.Arith.{ieee}
use Rattle.elementary.specs.Constants.{PI, FRAC_PI_2}
use Rattle.elementary.specs.Sine.{outside}
use Rattle.elementary.specs.Arctangent.{atan, atan2}
use Rattle.coordinates.specs.Constants.{2·0}
use Rattle.coordinates.specs.Conversions.{check_lon_lat, check_spherical}
use Rattle.coordinates.specs.CoordinateTransforms.{radians, deg_to_rad, to_polar, to_spherical, from_lon_lat}
use Rattle.coordinates.specs.Gnomonic.{gnomonic_inverse}
use Rattle.coordinates.specs.declared.base.Radians.{Radians}
use Rattle.coordinates.specs.declared.coords.Cartesian.{Cartesian}
use Rattle.coordinates.specs.declared.coords.Face.{Face}
use Rattle.coordinates.specs.declared.lonlat.LonLat.{LonLat}
use Rattle.coordinates.specs.declared.spherical.Spherical.{Spherical}
use Rattle.origin.specs.Constants.{5·0, PI_OVER_5, TWO_PI_OVER_5, INTERHEDRAL_ANGLE}
use Rattle.origin.specs.Origins.{origin_at}
use Rattle.tiling.specs.Index.{normalize_gamma}
use Rattle.set.specs.Set.{Set}
use Rattle.dodecahedron.specs.declared.work.Work.{Work}
use Rattle.dodecahedron.specs.Projection.{inverse_core}
open ieee use {◌⊕◌, ◌⊖◌, ◌⊗◌, ◌⊘◌, whole}

infixl 60 ◌⊕◌ ◌⊖◌
infixl 70 ◌⊗◌ ◌⊘◌
abbrev pub Inside : Float → Type 0
Inside x = outside x ≡ false

-- both angles of a position
abbrev pub InsideBoth : Spherical → Type 0
InsideBoth s = Inside s.theta.0 × Inside s.phi.0

-- what haversine takes of a position and an axis: halves of the differences, and both phis
pub record InsideHaversine (s axis : Spherical) : Type 0 where
  pub half_theta : Inside ((axis.theta.0 ⊖ s.theta.0) ⊘ 2·0)
  pub half_phi : Inside ((axis.phi.0 ⊖ s.phi.0) ⊘ 2·0)
  pub own_phi : Inside s.phi.0
  pub axis_phi : Inside axis.phi.0

pub record SineArguments (table : List Float) : Type 0 where
  -- ---- authalic: from_lon_lat and place; to_lon_lat; unplace
  pub latitude : (p : LonLat) → check_lon_lat p ≡ passed → Inside (deg_to_rad ieee p.latitude).0
  pub to_lon_lat : (s : Spherical) → check_spherical s ≡ passed → Inside (FRAC_PI_2 ⊖ s.phi.0)
  pub unplace :
      (s : Set) (f : Face) (o : ℕ) (w : Work Spherical) →
      inverse_core ieee (origin_at table o) s f o ≡ answered w →
      Inside (FRAC_PI_2 ⊖ w.answer.phi.0)
  -- ---- to_cartesian: forward; place; face centres; the other candidates of the frame, theta and phi; a corner of a triangle that is built
  pub forward : (s : Spherical) → check_spherical s ≡ passed → InsideBoth s
  pub place : (p : LonLat) → check_lon_lat p ≡ passed → InsideBoth (from_lon_lat ieee p)
  pub center : (k : ℕ) → k < 12 → InsideBoth (origin_at table k).axis
  pub around : (k m : ℕ) → k < 12 → m < 10 → Inside (whole false m ⊗ PI ⊘ 5·0 ⊕ (origin_at table k).angle.0)
  pub arc : (x : Float) → Inside (atan ieee x)
  pub corner :
      (f : Face) (k : ℕ) → k < 12 →
      let p = to_polar ieee f in
      InsideBoth (gnomonic_inverse ieee (record { rho = p.rho; gamma = radians (p.gamma.0 ⊕ (origin_at table k).angle.0) }))
  -- ---- gnomonic: the tangent in forward and place, for every vector
  pub gnomonic : (c : Cartesian) → Inside (to_spherical ieee c).phi.0
  -- ---- haversine: nearest; place
  pub nearest : (s : Spherical) (k : ℕ) → k < 12 → check_spherical s ≡ passed → InsideHaversine s (origin_at table k).axis
  pub place_nearest : (p : LonLat) (k : ℕ) → k < 12 → check_lon_lat p ≡ passed → InsideHaversine (from_lon_lat ieee p) (origin_at table k).axis
  -- ---- should_reflect, and to_face in its definition: for every gamma
  pub reflection : (gamma : Radians) → Inside (normalize_gamma ieee gamma).0
  -- ---- the face figure, whose numbers the code holds: vertex c, both corners, two constants, the quintants
  pub figure_c : (y x : Float) → Inside (PI_OVER_5 ⊖ atan2 ieee y x)
  pub figure_v : (y x : Float) → Inside (atan2 ieee y x ⊖ PI_OVER_5 ⊕ PI_OVER_5)
  pub figure_w : (y x : Float) → Inside (atan2 ieee y x ⊖ PI_OVER_5 ⊖ PI_OVER_5)
  pub figure_constants : Inside PI_OVER_5 × Inside INTERHEDRAL_ANGLE
  pub quintants : (q : ℕ) → q < 5 → Inside (TWO_PI_OVER_5 ⊗ whole false q)
