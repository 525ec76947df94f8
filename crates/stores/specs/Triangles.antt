-- Document 01, "Triangles and calls", and Paper 6: the triangles of slots, and b × c, as a call takes them
-- (projections/dodecahedron.rs). Definitions only.
use Rattle.std.specs.Prelude.{ℕ, ◌+◌, ◌*◌, cond, List, Float}
use Rattle.answer.specs.Given.{Given, answered, bind}
use Rattle.arithmetic.specs.Arith.{Arith}
use Rattle.coordinates.specs.CoordinateTransforms.{radians, to_polar, to_cartesian}
use Rattle.coordinates.specs.Gnomonic.{gnomonic_inverse}
use Rattle.coordinates.specs.Vector.{cross}
use Rattle.coordinates.specs.declared.coords.Face.{Face}
use Rattle.coordinates.specs.declared.coords.Cartesian.{Cartesian}
use Rattle.coordinates.specs.declared.coords.FaceTriangle.{FaceTriangle}
use Rattle.coordinates.specs.declared.coords.SphericalTriangle.{SphericalTriangle}
use Rattle.origin.specs.Quaternion.{transform_quat}
use Rattle.origin.specs.declared.utils.Origin.{Origin}
use Rattle.tiling.specs.FaceTriangles.{face_triangle}
use Rattle.crs.specs.Frame.{find_vertex}
use Rattle.set.specs.Sizes.{FACE_COORDINATES, FACE_WIDTH, SPHERE_COORDINATES, SPHERE_CROSS, SPHERE_WIDTH}
use Rattle.set.specs.Set.{Set}
use Rattle.stores.specs.Slots.{run, filled, face_in, sphere_in, vector_in}

module _ (A : Arith) where
  open A use {◌⊕◌}

  infixl 60 ◌⊕◌
  -- "A filled slot is read as it stands"; for an empty one it is the triangle defined for the slot
  unfoldable pub face_taken : List Float → ℕ → FaceTriangle
  face_taken store k =
      cond (filled store (k * FACE_WIDTH))
      (face_in (run store (k * FACE_WIDTH + 1) FACE_COORDINATES))
      (face_triangle A k)

  -- compute_spherical_triangle, one corner: turned to the origin, and looked up in the frame; 8 where there is no row
  unfoldable pub corner_vertex : List Float → Origin → Face → Given Cartesian
  corner_vertex frame o f =
      let polar = to_polar A f in
      let turned = gnomonic_inverse A (record { rho = polar.rho; gamma = radians (polar.gamma.0 ⊕ o.angle.0) }) in
      find_vertex A frame (transform_quat A (to_cartesian A turned) o.quat)

  -- compute_spherical_triangle
  unfoldable pub sphere_built : List Float → Origin → FaceTriangle → Given SphericalTriangle
  sphere_built frame o t =
      bind (corner_vertex frame o t.a) λ a.
      bind (corner_vertex frame o t.b) λ b.
      bind (corner_vertex frame o t.c) λ c.
      answered (record { a = a; b = b; c = c })

  -- the sphere triangle of slot k, which is built on the face triangle of slot j if it is empty
  unfoldable pub sphere_taken : Set → Origin → ℕ → ℕ → Given SphericalTriangle
  sphere_taken s o k j =
      cond (filled s.spheres (k * SPHERE_WIDTH))
      (answered (sphere_in (run s.spheres (k * SPHERE_WIDTH + 1) SPHERE_COORDINATES)))
      (sphere_built s.frame o (face_taken s.faces j))

  -- Paper 6: b × c of the triangle t that was taken from slot k: behind the nine coordinates, "as it stands"; for an empty slot it is
  -- formed from t's own b and c
  unfoldable pub cross_taken : List Float → ℕ → SphericalTriangle → Cartesian
  cross_taken store k t =
      cond (filled store (k * SPHERE_WIDTH))
      (vector_in (run store (k * SPHERE_WIDTH + SPHERE_CROSS) 3))
      (cross A t.b t.c)
