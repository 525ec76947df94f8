-- projections/crs.rs: the points that `add_face_centers`, `add_vertices` and `add_midpoints` add, over a table of twelve origins. Definitions only.
use Rattle.std.specs.Prelude.{ℕ, ◌+◌, ◌-◌, ◌*◌, ◌/◌, ◌%◌, true, false, List, ltb, Float}
use Rattle.arithmetic.specs.Arith.{Arith}
use Rattle.elementary.specs.Constants.{PI}
use Rattle.elementary.specs.Arctangent.{atan}
use Rattle.coordinates.specs.CoordinateTransforms.{radians, to_cartesian}
use Rattle.coordinates.specs.declared.coords.Cartesian.{Cartesian}
use Rattle.origin.specs.Constants.{5·0, DISTANCE_TO_EDGE, DISTANCE_TO_VERTEX}
use Rattle.origin.specs.Quaternion.{transform_quat}
use Rattle.origin.specs.Origins.{origin_at}
use Rattle.origin.specs.declared.utils.Origin.{Origin}

module _ (A : Arith) where
  open A use {◌⊕◌, ◌⊗◌, ◌⊘◌, whole}

  infixl 60 ◌⊕◌
  infixl 70 ◌⊗◌ ◌⊘◌
  -- at theta = m as f64 * PI / 5.0 + origin.angle and the angle phi from the pole, turned by the origin's quaternion
  unfoldable pub around : Origin → ℕ → Float → Cartesian
  around o m phi = transform_quat A (to_cartesian A (record { theta = radians (whole false m ⊗ PI ⊘ 5·0 ⊕ o.angle.0); phi = radians phi })) o.quat

  -- add_face_centers, at the origin k
  unfoldable pub face_center : List Float → ℕ → Cartesian
  face_center table k = to_cartesian A (origin_at table k).axis

  -- add_vertices, at the origin k / 5 and i = k % 5
  unfoldable pub vertex : List Float → ℕ → Cartesian
  vertex table k = around (origin_at table (k / 5)) (2 * (k % 5) + 1) (atan A DISTANCE_TO_VERTEX)

  -- add_midpoints, at the origin k / 5 and i = k % 5
  unfoldable pub midpoint : List Float → ℕ → Cartesian
  midpoint table k = around (origin_at table (k / 5)) (2 * (k % 5)) (atan A DISTANCE_TO_EDGE)

  -- in the order in which they are added: 12 centres, 60 vertices, 60 midpoints
  unfoldable pub candidate : List Float → ℕ → Cartesian
  candidate table k =
      elim (ltb k 12) [
        | true ↦ face_center table k
        | false ↦ elim (ltb k 72) [ true ↦ vertex table (k - 12) | false ↦ midpoint table (k - 72) ]
      ]
