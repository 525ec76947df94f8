-- geometry/spherical_polygon.rs: the area of a spherical triangle. Definitions only.
use Rattle.arithmetic.specs.Arith.{Arith}
use Rattle.arithmetic.specs.Numbers.{1·0}
use Rattle.elementary.specs.Arctangent.{atan2}
use Rattle.coordinates.specs.Constants.{2·0}
use Rattle.coordinates.specs.CoordinateTransforms.{radians}
use Rattle.coordinates.specs.Vector.{triple_product, dot}
use Rattle.coordinates.specs.declared.base.Radians.{Radians}
use Rattle.coordinates.specs.declared.coords.Cartesian.{Cartesian}

module _ (A : Arith) where
  open A use {◌⊕◌, ◌⊗◌}

  infixl 60 ◌⊕◌
  infixl 70 ◌⊗◌
  -- spherical_triangle_area: 2.0 * atan2(triple product, norm)
  unfoldable pub spherical_triangle_area : Cartesian → Cartesian → Cartesian → Radians
  spherical_triangle_area v1 v2 v3 =
      let norm = 1·0 ⊕ dot A v1 v2 ⊕ dot A v2 v3 ⊕ dot A v3 v1 in
      radians (2·0 ⊗ atan2 A (triple_product A v1 v2 v3) norm)
