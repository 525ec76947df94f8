-- core/dodecahedron_quaternions.rs, and the rotation by a quaternion of crs.rs and dodecahedron.rs. Definitions only.
use Rattle.std.specs.Prelude.{ℕ, List, [], ◌∷◌}
use Rattle.std.specs.Float.{binary64}
use Rattle.std.specs.Float.Ieee.{neg, of_bits}
use Rattle.arithmetic.specs.Arith.{Arith}
use Rattle.coordinates.specs.Vector.{x, y, z, cartesian}
use Rattle.coordinates.specs.declared.coords.Cartesian.{Cartesian}
use Rattle.origin.specs.declared.utils.Quat.{Quat}

unfoldable quat : ℕ → ℕ → ℕ → ℕ → Quat
unfolding of_bits
quat a b c d = record { x = of_bits binary64 a; y = of_bits binary64 b; z = of_bits binary64 c; w = of_bits binary64 d }

-- QUATERNIONS
unfoldable pub QUATERNIONS : List Quat
unfolding quat
QUATERNIONS =
    -- 0.0, 0.0, 0.0, 1.0
    quat 0x0000_0000_0000_0000 0x0000_0000_0000_0000 0x0000_0000_0000_0000 0x3ff0_0000_0000_0000 ∷
    -- 0.0, 0.5257311121191336, 0.0, 0.8506508083520399
    quat 0x0000_0000_0000_0000 0x3fe0_d2ca_0da1_530d 0x0000_0000_0000_0000 0x3feb_3888_0b46_03e4 ∷
    -- -0.5, 0.16245984811645314, 0.0, 0.8506508083520399
    quat 0xbfe0_0000_0000_0000 0x3fc4_cb7b_fb49_61ae 0x0000_0000_0000_0000 0x3feb_3888_0b46_03e4 ∷
    -- -0.30901699437494745, -0.42532540417602, 0.0, 0.8506508083520399
    quat 0xbfd3_c6ef_372f_e950 0xbfdb_3888_0b46_03e5 0x0000_0000_0000_0000 0x3feb_3888_0b46_03e4 ∷
    -- 0.30901699437494745, -0.42532540417602, 0.0, 0.8506508083520399
    quat 0x3fd3_c6ef_372f_e950 0xbfdb_3888_0b46_03e5 0x0000_0000_0000_0000 0x3feb_3888_0b46_03e4 ∷
    -- 0.5, 0.16245984811645314, 0.0, 0.8506508083520399
    quat 0x3fe0_0000_0000_0000 0x3fc4_cb7b_fb49_61ae 0x0000_0000_0000_0000 0x3feb_3888_0b46_03e4 ∷
    -- 0.0, -0.8506508083520399, 0.0, 0.5257311121191336
    quat 0x0000_0000_0000_0000 0xbfeb_3888_0b46_03e4 0x0000_0000_0000_0000 0x3fe0_d2ca_0da1_530d ∷
    -- 0.8090169943749475, -0.2628655560595668, 0.0, 0.5257311121191336
    quat 0x3fe9_e377_9b97_f4a8 0xbfd0_d2ca_0da1_530d 0x0000_0000_0000_0000 0x3fe0_d2ca_0da1_530d ∷
    -- 0.5, 0.6881909602355868, 0.0, 0.5257311121191336
    quat 0x3fe0_0000_0000_0000 0x3fe6_05a9_0c73_ab79 0x0000_0000_0000_0000 0x3fe0_d2ca_0da1_530d ∷
    -- -0.5, 0.6881909602355868, 0.0, 0.5257311121191336
    quat 0xbfe0_0000_0000_0000 0x3fe6_05a9_0c73_ab79 0x0000_0000_0000_0000 0x3fe0_d2ca_0da1_530d ∷
    -- -0.8090169943749475, -0.2628655560595668, 0.0, 0.5257311121191336
    quat 0xbfe9_e377_9b97_f4a8 0xbfd0_d2ca_0da1_530d 0x0000_0000_0000_0000 0x3fe0_d2ca_0da1_530d ∷
    -- 0.0, -1.0, 0.0, 0.0
    quat 0x0000_0000_0000_0000 0xbff0_0000_0000_0000 0x0000_0000_0000_0000 0x0000_0000_0000_0000 ∷
    []

unfoldable pub quat_conjugate : Quat → Quat
unfolding neg
quat_conjugate q = record { x = neg q.x; y = neg q.y; z = neg q.z; w = q.w }

module _ (A : Arith) where
  open A use {◌⊕◌, ◌⊖◌, ◌⊗◌}

  infixl 60 ◌⊕◌ ◌⊖◌
  infixl 70 ◌⊗◌
  -- transform_quat: q v, and that times the conjugate
  unfoldable pub transform_quat : Cartesian → Quat → Cartesian
  unfolding quat_conjugate
  transform_quat v q =
      let c = quat_conjugate q in
      let tx = q.w ⊗ x v ⊕ q.y ⊗ z v ⊖ q.z ⊗ y v in
      let ty = q.w ⊗ y v ⊕ q.z ⊗ x v ⊖ q.x ⊗ z v in
      let tz = q.w ⊗ z v ⊕ q.x ⊗ y v ⊖ q.y ⊗ x v in
      let tw = c.x ⊗ x v ⊖ q.y ⊗ y v ⊖ q.z ⊗ z v in
      cartesian
      (tw ⊗ c.x ⊕ tx ⊗ c.w ⊕ ty ⊗ c.z ⊖ tz ⊗ c.y)
      (tw ⊗ c.y ⊕ ty ⊗ c.w ⊕ tz ⊗ c.x ⊖ tx ⊗ c.z)
      (tw ⊗ c.z ⊕ tz ⊗ c.w ⊕ tx ⊗ c.y ⊖ ty ⊗ c.x)
