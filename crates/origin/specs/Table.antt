-- Paper 10: what the 84 numbers of a table must be. Definitions only.
use Rattle.std.specs.Prelude.{ℕ, zero, suc, Bool, true, not, ◌&&◌, List, Float}
use Rattle.std.specs.Float.{binary64}
use Rattle.std.specs.Float.Ieee.{le, neg, of_bits}
use Rattle.answer.specs.Given.{Given, refuse_if, passed}
use Rattle.answer.specs.Number.{is_finite}
use Rattle.arithmetic.specs.Arith.{Arith}
use Rattle.arithmetic.specs.Numbers.{1·0}
use Rattle.coordinates.specs.Constants.{8·0}
use Rattle.origin.specs.Origins.{origin_at}
use Rattle.origin.specs.declared.utils.Origin.{Origin}
use Rattle.origin.specs.declared.utils.Quat.{Quat}

-- from -limit to limit, ends included
abbrev pub within : Float → Float → Bool
within limit x = le (neg limit) x && le x limit

-- "All 84 numbers are finite", and one that lies in its range
abbrev pub sound : Float → Float → Bool
sound limit x = is_finite x && within limit x

-- "Theta, phi and angle lie in ±8, quaternion numbers in ±1"
unfoldable pub row_sound : Origin → Bool
row_sound o =
    sound 8·0 o.axis.theta.0
    && sound 8·0 o.axis.phi.0
    && sound 1·0 o.quat.x
    && sound 1·0 o.quat.y
    && sound 1·0 o.quat.z
    && sound 1·0 o.quat.w
    && sound 8·0 o.angle.0

-- a test passes in m rows from row k on
unfoldable pub every_row : (Origin → Bool) → List Float → ℕ → ℕ → Bool
every_row test table zero k = true
every_row test table (suc m) k = test (origin_at table k) && every_row test table m (suc k)

-- the numbers of all twelve rows
unfoldable pub numbers_sound : List Float → Bool
numbers_sound table = every_row row_sound table 12 0

-- 1e-12
unfoldable pub 1e-12 : Float
unfolding of_bits
1e-12 = of_bits binary64 0x3d71_9799_812d_ea11

module _ (A : Arith) where
  open A use {◌⊕◌, ◌⊖◌, ◌⊗◌}

  infixl 60 ◌⊕◌ ◌⊖◌
  infixl 70 ◌⊗◌
  -- "Each row's quaternion squares, summed left to right, must differ from 1 by at most 1e-12"
  unfoldable pub is_unit : Quat → Bool
  is_unit q = within 1e-12 (q.x ⊗ q.x ⊕ q.y ⊗ q.y ⊕ q.z ⊗ q.z ⊕ q.w ⊗ q.w ⊖ 1·0)

  -- the quaternions of all twelve rows
  unfoldable pub unit_rows : List Float → Bool
  unit_rows table = every_row (λ o. is_unit o.quat) table 12 0

  -- "Refusal 21: a number not finite or outside its range. Refusal 22: a quaternion off unit length. They are tried in that order .., rows from
  -- first to last for each."
  unfoldable pub check_table : List Float → Given (Unit {0})
  check_table table =
      refuse_if (not (numbers_sound table)) 21
      (refuse_if (not (unit_rows table)) 22
      passed)
