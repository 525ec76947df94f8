-- Document 01, "Triangles and calls": the triangles that a call takes for a point, and the slots that it uses (projections/dodecahedron.rs). Definitions only.
use Rattle.std.specs.Prelude.{ℕ}
use Rattle.answer.specs.Given.{Given, answered, and_then, bind}
use Rattle.arithmetic.specs.Arith.{Arith}
use Rattle.coordinates.specs.declared.coords.FaceTriangle.{FaceTriangle}
use Rattle.coordinates.specs.declared.polar.Polar.{Polar}
use Rattle.origin.specs.declared.utils.Origin.{Origin}
use Rattle.tiling.specs.Index.{triangle_index, should_reflect}
use Rattle.set.specs.Set.{Set}
use Rattle.set.specs.Checks.{check_call}
use Rattle.stores.specs.Slots.{face_slot, source_slot, sphere_slot}
use Rattle.stores.specs.declared.used.Used.{Used}
use Rattle.stores.specs.Triangles.{face_taken, sphere_taken, cross_taken}
use Rattle.stores.specs.declared.taken.Taken.{Taken}

-- the face triangle of the point
unfoldable pub face_for : Arith → Set → Used → FaceTriangle
face_for A s u = face_taken A s.faces (face_slot u.index u.reflected)

-- for the origin that has the number o
module _ (A : Arith) (origin : Origin) (s : Set) where
  -- the sphere triangle taken for a polar point, and b × c, with the slots used; 8 where a vertex has no row
  unfoldable pub used_for : ℕ → Polar → Given Used
  used_for o polar =
      let i = triangle_index A polar.gamma in
      let r = should_reflect A polar in
      let k = sphere_slot o i r in
      bind (sphere_taken A s origin k (source_slot i r)) λ t.
      answered (record { origin = o; index = i; reflected = r; triangle = t; bxc = cross_taken A s.spheres k t })

  -- both triangles of a polar point, on any buffers and for any id: 1 to 4, and then 8
  unfoldable pub taken_for : ℕ → Polar → Given Taken
  taken_for o polar =
      and_then (check_call s o)
      (bind (used_for o polar) λ u.
      answered (record { used = u; face_triangle = face_for A s u }))
