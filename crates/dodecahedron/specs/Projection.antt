-- Document 01, "Triangles and calls": what forward and inverse work out, without the checks of the calls
-- (projections/dodecahedron.rs). Definitions only.
use Rattle.std.specs.Prelude.{ℕ, ◌+◌, ◌*◌, List, get_or, Float}
use Rattle.std.specs.Float.{nan}
use Rattle.answer.specs.Given.{Given, answered, bind}
use Rattle.arithmetic.specs.Arith.{Arith}
use Rattle.coordinates.specs.CoordinateTransforms.{radians, to_polar, to_spherical, to_cartesian}
use Rattle.coordinates.specs.Gnomonic.{gnomonic_forward}
use Rattle.coordinates.specs.Vector.{cartesian}
use Rattle.coordinates.specs.declared.coords.Cartesian.{Cartesian}
use Rattle.coordinates.specs.declared.coords.Face.{Face}
use Rattle.coordinates.specs.declared.polar.Polar.{Polar}
use Rattle.coordinates.specs.declared.spherical.Spherical.{Spherical}
use Rattle.origin.specs.Quaternion.{quat_conjugate, transform_quat}
use Rattle.origin.specs.declared.utils.Origin.{Origin}
use Rattle.equal_area.specs.EqualArea.{compute_constants, forward, inverse}
use Rattle.equal_area.specs.declared.equal_area.TriangleConstants.{TriangleConstants}
use Rattle.set.specs.Set.{Set}
use Rattle.stores.specs.Taken.{face_for, used_for}
use Rattle.dodecahedron.specs.declared.work.Work.{Work}

-- row k of a frame
abbrev pub row_at : List Float → ℕ → Cartesian
row_at frame k = cartesian (get_or frame (k * 3) nan) (get_or frame (k * 3 + 1) nan) (get_or frame (k * 3 + 2) nan)

-- "Constants come from frame rows 0, 32, 12 at each call."
unfoldable pub frame_constants : Arith → List Float → TriangleConstants
frame_constants A frame = compute_constants A (record { a = row_at frame 0; b = row_at frame 32; c = row_at frame 12 })

-- the polar point of a position about an origin's axis: forward_cartesian up to rotated_polar
module _ (A : Arith) where
  open A use {◌⊖◌}

  infixl 60 ◌⊖◌
  unfoldable pub polar_about : Origin → Cartesian → Polar
  polar_about o v =
      -- back to the origin's own space
      let out = transform_quat A v (quat_conjugate o.quat) in
      -- unprojected gnomonically to polar coordinates there
      let polar = gnomonic_forward A (to_spherical A out) in
      -- turned about the face's axis, so that the origin's own angle is off
      record { rho = polar.rho; gamma = radians (polar.gamma.0 ⊖ o.angle.0) }

-- on the origin that has the number o
module _ (A : Arith) (origin : Origin) (s : Set) where
  -- DodecahedronProjection::forward; 8. Paper 6: "Forward reads b × c there, as it stands, instead of forming it".
  unfoldable pub forward_core : Spherical → ℕ → Given (Work Face)
  forward_core p o =
      let v = to_cartesian A p in
      bind (used_for A origin s o (polar_about A origin v)) λ u.
      answered (record { answer = forward A (frame_constants A s.frame) v u.triangle u.bxc (face_for A s u); used = u })

  -- DodecahedronProjection::inverse; 8, and Paper 7's 19, "tried after 8 and before 9". It has no use for b × c.
  unfoldable pub inverse_core : Face → ℕ → Given (Work Spherical)
  inverse_core f o =
      bind (used_for A origin s o (to_polar A f)) λ u.
      bind (inverse A (frame_constants A s.frame) f (face_for A s u) u.triangle) λ v.
      answered (record { answer = to_spherical A v; used = u })
