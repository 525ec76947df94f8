-- core/coordinate_transforms.rs, in its order and with its order of operations. Definitions only.
use Rattle.std.specs.Prelude.{Float}
use Rattle.arithmetic.specs.Arith.{Arith}
use Rattle.arithmetic.specs.Numbers.{1·0}
use Rattle.elementary.specs.Constants.{PI, FRAC_PI_2}
use Rattle.elementary.specs.Sine.{sin_cos}
use Rattle.elementary.specs.Arctangent.{atan2}
use Rattle.coordinates.specs.Constants.{180·0, 360·0, LONGITUDE_OFFSET}
use Rattle.coordinates.specs.Authalic.{authalic_forward, authalic_inverse}
use Rattle.coordinates.specs.Vector.{cartesian}
use Rattle.coordinates.specs.declared.base.Degrees.{Degrees}
use Rattle.coordinates.specs.declared.base.Radians.{Radians}
use Rattle.coordinates.specs.declared.coords.Face.{Face}
use Rattle.coordinates.specs.declared.coords.Cartesian.{Cartesian}
use Rattle.coordinates.specs.declared.coords.Barycentric.{Barycentric}
use Rattle.coordinates.specs.declared.coords.FaceTriangle.{FaceTriangle}
use Rattle.coordinates.specs.declared.lonlat.LonLat.{LonLat}
use Rattle.coordinates.specs.declared.polar.Polar.{Polar}
use Rattle.coordinates.specs.declared.spherical.Spherical.{Spherical}

abbrev pub degrees : Float → Degrees
degrees x = record { 0 = x }

abbrev pub radians : Float → Radians
radians x = record { 0 = x }

abbrev pub face : Float → Float → Face
face a b = record { 0 = record { x = a; y = b } }

module _ (A : Arith) where
  open A use {◌⊕◌, ◌⊖◌, ◌⊗◌, ◌⊘◌, remainder, root}

  infixl 60 ◌⊕◌ ◌⊖◌
  infixl 70 ◌⊗◌ ◌⊘◌
  -- deg * (PI / 180.0)
  unfoldable pub deg_to_rad : Degrees → Radians
  unfolding PI
  deg_to_rad deg = radians (deg.0 ⊗ (PI ⊘ 180·0))

  -- rad * (180.0 / PI)
  unfoldable pub rad_to_deg : Radians → Degrees
  unfolding PI
  rad_to_deg rad = degrees (rad.0 ⊗ (180·0 ⊘ PI))

  unfoldable pub to_polar : Face → Polar
  unfolding atan2
  to_polar p =
      let x = p.0.x in
      let y = p.0.y in
      record { rho = root (x ⊗ x ⊕ y ⊗ y); gamma = radians (atan2 A y x) }

  unfoldable pub to_face : Polar → Face
  unfolding sin_cos
  to_face polar = let g = sin_cos A polar.gamma.0 in face (polar.rho ⊗ g.cos) (polar.rho ⊗ g.sin)

  unfoldable pub face_to_barycentric : Face → FaceTriangle → Barycentric
  face_to_barycentric p t =
      let p1 = t.a.0 in
      let p2 = t.b.0 in
      let p3 = t.c.0 in
      let d31x = p1.x ⊖ p3.x in
      let d31y = p1.y ⊖ p3.y in
      let d23x = p3.x ⊖ p2.x in
      let d23y = p3.y ⊖ p2.y in
      let d3px = p.0.x ⊖ p3.x in
      let d3py = p.0.y ⊖ p3.y in
      let det = d23x ⊗ d31y ⊖ d23y ⊗ d31x in
      let b0 = (d23x ⊗ d3py ⊖ d23y ⊗ d3px) ⊘ det in
      let b1 = (d31x ⊗ d3py ⊖ d31y ⊗ d3px) ⊘ det in
      record { u = b0; v = b1; w = 1·0 ⊖ (b0 ⊕ b1) }

  unfoldable pub barycentric_to_face : Barycentric → FaceTriangle → Face
  barycentric_to_face b t =
      let p1 = t.a.0 in
      let p2 = t.b.0 in
      let p3 = t.c.0 in
      face (b.u ⊗ p1.x ⊕ b.v ⊗ p2.x ⊕ b.w ⊗ p3.x) (b.u ⊗ p1.y ⊕ b.v ⊗ p2.y ⊕ b.w ⊗ p3.y)

  unfoldable pub to_spherical : Cartesian → Spherical
  unfolding atan2
  to_spherical c =
      let x = c.0.x in
      let y = c.0.y in
      let z = c.0.z in
      let rxy = root (x ⊗ x ⊕ y ⊗ y) in
      record { theta = radians (atan2 A y x); phi = radians (atan2 A rxy z) }

  unfoldable pub to_cartesian : Spherical → Cartesian
  unfolding sin_cos
  to_cartesian s =
      let theta = sin_cos A s.theta.0 in
      let phi = sin_cos A s.phi.0 in
      cartesian (phi.sin ⊗ theta.cos) (phi.sin ⊗ theta.sin) phi.cos

  unfoldable pub from_lon_lat : LonLat → Spherical
  unfolding deg_to_rad authalic_forward FRAC_PI_2
  from_lon_lat p =
      let theta = deg_to_rad (degrees (p.longitude.0 ⊕ LONGITUDE_OFFSET)) in
      let authalicLat = authalic_forward A (deg_to_rad p.latitude) in
      record { theta = theta; phi = radians (FRAC_PI_2 ⊖ authalicLat.0) }

  -- ((lon + 180.0) % 360.0 + 360.0) % 360.0 - 180.0
  unfoldable pub normalize_longitude : Degrees → Degrees
  normalize_longitude lon = degrees (remainder (remainder (lon.0 ⊕ 180·0) 360·0 ⊕ 360·0) 360·0 ⊖ 180·0)

  unfoldable pub to_lon_lat : Spherical → LonLat
  unfolding rad_to_deg normalize_longitude authalic_inverse FRAC_PI_2
  to_lon_lat s =
      let longitude = normalize_longitude (degrees ((rad_to_deg s.theta).0 ⊖ LONGITUDE_OFFSET)) in
      let geodeticLat = authalic_inverse A (radians (FRAC_PI_2 ⊖ s.phi.0)) in
      record { longitude = longitude; latitude = rad_to_deg geodeticLat }
