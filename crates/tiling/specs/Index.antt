-- Document 01, "Triangles and calls": the triangle that a point belongs to, and whether it is reflected (projections/dodecahedron.rs).
-- Definitions only.
use Rattle.std.specs.Prelude.{ℕ, ◌-◌, ◌%◌, Bool, ℤ, negsuc, ◌+ℤ◌}
use Rattle.std.proofs.Math.IntN.{pos}
use Rattle.std.specs.Float.Ieee.{lt}
use Rattle.arithmetic.specs.Arith.{Arith}
use Rattle.elementary.specs.Whole.{floorℤ, round}
use Rattle.coordinates.specs.CoordinateTransforms.{radians, to_face}
use Rattle.coordinates.specs.declared.base.Radians.{Radians}
use Rattle.coordinates.specs.declared.polar.Polar.{Polar}
use Rattle.origin.specs.Constants.{PI_OVER_5, TWO_PI_OVER_5, DISTANCE_TO_EDGE}
use Rattle.tiling.specs.Pentagon.{x}

-- "mod 10, never negative"
unfoldable pub modulo10 : ℤ → ℕ
modulo10 (pos k) = k % 10
modulo10 (negsuc k) = 9 - k % 10

module _ (A : Arith) where
  open A use {◌⊖◌, ◌⊗◌, ◌⊘◌}

  infixl 60 ◌⊖◌
  infixl 70 ◌⊗◌ ◌⊘◌
  -- "Triangle index is (floor(gamma/(π/5)) + 10) mod 10, never negative.": get_face_triangle_index. 0 where gamma is not finite
  unfoldable pub triangle_index : Radians → ℕ
  unfolding PI_OVER_5
  triangle_index gamma = modulo10 (floorℤ (gamma.0 ⊘ PI_OVER_5) +ℤ pos 10)

  -- normalize_gamma
  unfoldable pub normalize_gamma : Radians → Radians
  unfolding round TWO_PI_OVER_5
  normalize_gamma gamma =
      let segment = gamma.0 ⊘ TWO_PI_OVER_5 in
      let center = round A segment in
      radians ((segment ⊖ center) ⊗ TWO_PI_OVER_5)

  -- "It reflects exactly when x, after normalize_gamma and to_face, is above DISTANCE_TO_EDGE.": should_reflect
  unfoldable pub should_reflect : Polar → Bool
  unfolding normalize_gamma to_face lt DISTANCE_TO_EDGE
  should_reflect polar = lt DISTANCE_TO_EDGE (x (to_face A (record { rho = polar.rho; gamma = normalize_gamma polar.gamma })))
