-- core/origin.rs: generate_origins, and the table of its twelve origins as 84 numbers in final order. Every other definition takes a table,
-- and contracts cite it at the built-in one, ORIGINS. Definitions only.
use Rattle.std.specs.Prelude.{ℕ, ◌+◌, ◌*◌, ◌%◌, Float}
use Rattle.std.proofs.Math.Bool.{false}
use mathlib.Core.List.{List, [], ◌∷◌, ◌++◌, map}
use Rattle.std.proofs.Math.ListN.{get_or}
use Rattle.std.specs.Float.{nan}
use Rattle.arithmetic.specs.Arith.{Arith, ieee}
use Rattle.arithmetic.specs.Numbers.{0·0}
use Rattle.elementary.specs.Constants.{PI}
use Rattle.coordinates.specs.CoordinateTransforms.{radians}
use Rattle.origin.specs.Constants.{PI_OVER_5, TWO_PI_OVER_5, INTERHEDRAL_ANGLE}
use Rattle.origin.specs.Quaternion.{QUATERNIONS}
use Rattle.origin.specs.declared.utils.Origin.{Origin}

-- ---- an origin as the seven numbers of a table's row: axis theta, axis phi, quaternion x, y, z, w, and angle

abbrev pub origin_of : Float → Float → Float → Float → Float → Float → Float → Origin
origin_of theta phi a b c d angle =
    record {
      axis = record { theta = radians theta; phi = radians phi };
      quat = record { x = a; y = b; z = c; w = d };
      angle = radians angle;
    }

unfoldable pub row_of : Origin → List Float
row_of o = o.axis.theta.0 ∷ o.axis.phi.0 ∷ o.quat.x ∷ o.quat.y ∷ o.quat.z ∷ o.quat.w ∷ o.angle.0 ∷ []

-- the origin with the number k in a table of rows; NaN where the table has no such row
unfoldable pub origin_at : List Float → ℕ → Origin
origin_at table k =
    let at = 7 * k in
    let number : ℕ → Float = λ n. get_or table n nan in
    origin_of (number at) (number (at + 1)) (number (at + 2)) (number (at + 3)) (number (at + 4)) (number (at + 5)) (number (at + 6))

-- ---- how the Rust makes them

nowhere : Origin
nowhere = origin_of nan nan nan nan nan nan nan

-- add_origin: axis, angle, and the quaternion with the number k
unfoldable add_origin : Float → Float → Float → ℕ → Origin
unfolding QUATERNIONS
add_origin theta phi angle k =
    let q = get_or QUATERNIONS k nowhere.quat in
    origin_of theta phi q.x q.y q.z q.w angle

-- ORIGIN_ORDER
abbrev pub ORIGIN_ORDER : List ℕ
ORIGIN_ORDER = 0 ∷ 1 ∷ 2 ∷ 4 ∷ 3 ∷ 5 ∷ 7 ∷ 8 ∷ 6 ∷ 11 ∷ 10 ∷ 9 ∷ []

module _ (A : Arith) where
  open A use {◌⊕◌, ◌⊖◌, ◌⊗◌, whole}

  infixl 60 ◌⊕◌ ◌⊖◌
  infixl 70 ◌⊗◌
  -- the middle band's loop body at i: an origin of the northern ring and one of the southern
  unfoldable middle_band : ℕ → List Origin
  unfolding add_origin PI_OVER_5 TWO_PI_OVER_5 INTERHEDRAL_ANGLE PI
  middle_band i =
      let alpha = whole false i ⊗ TWO_PI_OVER_5 in
      let alpha2 = alpha ⊕ PI_OVER_5 in
      add_origin alpha INTERHEDRAL_ANGLE PI_OVER_5 (i + 1)
      ∷ add_origin alpha2 (PI ⊖ INTERHEDRAL_ANGLE) PI_OVER_5 ((i + 3) % 5 + 6)
      ∷ []

  -- north pole, middle band, south pole
  unfoldable made : List Origin
  unfolding add_origin middle_band PI
  made =
      (add_origin 0·0 0·0 0·0 0 ∷ [])
      ++ (middle_band 0 ++ (middle_band 1 ++ (middle_band 2 ++ (middle_band 3 ++ (middle_band 4
      ++ (add_origin 0·0 PI 0·0 11 ∷ []))))))

  -- generate_origins: made, then renumbered
  unfoldable pub generate_origins : List Origin
  unfolding made nowhere
  generate_origins = map (λ k. get_or made k nowhere) ORIGIN_ORDER

  -- row after row
  rows : List Origin → List Float
  rows [] = []
  rows (o ∷ os) = row_of o ++ rows os

  unfoldable pub generated_table : List Float
  unfolding generate_origins rows row_of
  generated_table = rows generate_origins

-- ---- the built-in table. Its 84 numbers by their bits stand in `proofs/BuiltIn`, proved equal.

unfoldable pub ORIGINS : List Float
unfolding generated_table
ORIGINS = generated_table ieee
