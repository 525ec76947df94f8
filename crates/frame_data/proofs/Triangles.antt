-- All 240 sphere triangles of the built-in table find their vertices among ROWS. One test of all of them is computed,
-- in `quick` (`passes`); a lemma over any arithmetic carries its outcome to each origin, index and reflection
-- (`carried`). Assumes nothing.
use mathlib.Core.Bool.{Bool, true, false, ◌&&◌}
use Prim.Native.Nat.{ℕ, ◌<◌}
use lib.Dec.{T}
use lib.Ieee.Fits.{and_l, and_r}
use Rattle.arithmetic.specs.Arith.{Arith, ieee}
use Rattle.arithmetic.proofs.Quick.{quick, in_ieee}
use Rattle.coordinates.specs.CoordinateTransforms.{radians, to_polar, to_cartesian}
use Rattle.coordinates.specs.Gnomonic.{gnomonic_inverse}
use Rattle.coordinates.specs.declared.coords.Cartesian.{Cartesian}
use Rattle.coordinates.specs.declared.coords.Face.{Face}
use Rattle.coordinates.specs.declared.coords.FaceTriangle.{FaceTriangle}
use Rattle.origin.specs.Origins.{ORIGINS, origin_at}
use Rattle.origin.specs.Quaternion.{transform_quat}
use Rattle.origin.specs.declared.utils.Origin.{Origin}
use Rattle.tiling.specs.FaceTriangles.{midpoint, half_of, get_base_face_triangle, squashed_scale, scale_of, beyond, reflected_of, get_reflected_face_triangle, face_triangle}
use Rattle.tiling.specs.Tiling.{get_quintant_vertices}
use Rattle.stores.specs.Slots.{source_slot}
use Rattle.stores.specs.Triangles.{corner_vertex, sphere_built}
use Rattle.frame_data.specs.Rows.{ROWS}
use Rattle.frame_data.specs.Claims.{Answers, AllBuilt}
use Rattle.frame_data.proofs.Every.{every, every_at}
use Rattle.frame_data.proofs.Seek.{seek, seek_found}
use Rattle.frame_data.proofs.Frame.{frame_is}

module _ (A : Arith) where
  open A use {◌⊕◌}

  infixl 60 ◌⊕◌
  -- ---- a face point at every origin

  -- where compute_spherical_triangle looks for a corner
  unfoldable on_sphere : Origin → Face → Cartesian
  unfolding to_polar gnomonic_inverse to_cartesian transform_quat
  on_sphere o f =
      let polar = to_polar A f in
      let turned = gnomonic_inverse A (record { rho = polar.rho; gamma = radians (polar.gamma.0 ⊕ o.angle.0) }) in
      transform_quat A (to_cartesian A turned) o.quat

  unfoldable origin_test : Face → ℕ → Bool
  unfolding seek on_sphere origin_at ORIGINS ROWS
  origin_test f o = seek A (on_sphere (origin_at ORIGINS o) f) ROWS

  unfoldable point_test : Face → Bool
  unfolding every origin_test
  point_test f = every 12 (origin_test f)

  point_found : (f : Face) → T (point_test f) → (o : ℕ) → o < 12 → Answers (corner_vertex A ROWS (origin_at ORIGINS o) f)
  unfolding point_test origin_test on_sphere corner_vertex
  point_found f t o h = seek_found A (on_sphere (origin_at ORIGINS o) f) ROWS (every_at 12 (origin_test f) t o h)

  -- ---- a face triangle at every origin

  unfoldable triangle_test : FaceTriangle → Bool
  unfolding point_test
  triangle_test t = point_test t.a && (point_test t.b && point_test t.c)

  triangle_built : (t : FaceTriangle) → T (triangle_test t) → (o : ℕ) → o < 12
      → Answers (sphere_built A ROWS (origin_at ORIGINS o) t)
  unfolding triangle_test sphere_built
  triangle_built t h o l =
      let more = and_r (point_test t.a) (point_test t.b && point_test t.c) h in
      let a = point_found t.a (and_l (point_test t.a) (point_test t.b && point_test t.c) h) o l in
      let b = point_found t.b (and_l (point_test t.b) (point_test t.c) more) o l in
      let c = point_found t.c (and_r (point_test t.b) (point_test t.c) more) o l in
      (record { a = a.0; b = b.0; c = c.0 }, rw (a.1, b.1, c.1))

  -- ---- the one test: the two face triangles of each index that sphere triangles are built from

  -- what is opened to compute them: who unfolds a name unfolds the names on its line
  unfoldable drawn_face : ℕ → FaceTriangle
  unfolding get_base_face_triangle half_of midpoint get_quintant_vertices
  drawn_face = get_base_face_triangle A

  unfoldable reflected_face : ℕ → FaceTriangle
  unfolding face_triangle get_reflected_face_triangle reflected_of beyond scale_of squashed_scale
  reflected_face = face_triangle A

  unfoldable index_test : ℕ → Bool
  unfolding triangle_test drawn_face reflected_face
  index_test i = triangle_test (face_triangle A (source_slot i false)) && triangle_test (face_triangle A (source_slot i true))

  unfoldable all_test : Bool
  unfolding every index_test
  all_test = every 10 index_test

  -- its outcome at each sphere triangle
  carried : T all_test → (o i : ℕ) (r : Bool) → o < 12 → i < 10
      → Answers (sphere_built A ROWS (origin_at ORIGINS o) (face_triangle A (source_slot i r)))
  unfolding all_test index_test
  carried t o i r l h = triangle_built (face_triangle A (source_slot i r)) (of r (every_at 10 index_test t i h)) o l
    where
      drawn : Bool
      drawn = triangle_test (face_triangle A (source_slot i false))

      squashed : Bool
      squashed = triangle_test (face_triangle A (source_slot i true))

      of : (r : Bool) → T (drawn && squashed) → T (triangle_test (face_triangle A (source_slot i r)))
      of false = and_l drawn squashed
      of true = and_r drawn squashed

passes : T (all_test quick)
unfolding quick all_test
passes = tt

pub all_built : AllBuilt
all_built o i r l h = rw frame_is (carried ieee (in_ieee (λ A. T (all_test A)) passes) o i r l h)
