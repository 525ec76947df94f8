-- The built-in table by its bits: what `generate_origins` and ORIGIN_ORDER make. Computed. A row is two lines: axis theta and phi, then
-- quaternion x, y, z, w and angle. Assumes nothing.
use mathlib.Core.Path.{◌≡◌, refl, ap}
use mathlib.Core.List.{List, [], ◌∷◌, map}
use lib.ListN.{length}
use lib.Ieee.{Float, binary64, of_bits}
use Rattle.arithmetic.specs.Arith.{Arith}
use Rattle.arithmetic.proofs.Quick.{quick, in_ieee}
use Rattle.origin.specs.Origins.{ORIGINS, generated_table}

unfoldable pub BITS : List Float
unfolding of_bits
BITS =
    map (of_bits binary64)
    (0x0000_0000_0000_0000 ∷ 0x0000_0000_0000_0000 ∷
    0x0000_0000_0000_0000 ∷ 0x0000_0000_0000_0000 ∷ 0x0000_0000_0000_0000 ∷ 0x3ff0_0000_0000_0000 ∷ 0x0000_0000_0000_0000 ∷
    0x0000_0000_0000_0000 ∷ 0x3ff1_b6e1_92eb_be44 ∷
    0x0000_0000_0000_0000 ∷ 0x3fe0_d2ca_0da1_530d ∷ 0x0000_0000_0000_0000 ∷ 0x3feb_3888_0b46_03e4 ∷ 0x3fe4_1b2f_769c_f0e0 ∷
    0x3fe4_1b2f_769c_f0e0 ∷ 0x4000_468a_8ace_4df6 ∷
    0xbfe0_0000_0000_0000 ∷ 0x3fe6_05a9_0c73_ab79 ∷ 0x0000_0000_0000_0000 ∷ 0x3fe0_d2ca_0da1_530d ∷ 0x3fe4_1b2f_769c_f0e0 ∷
    0x3ffe_28c7_31eb_6950 ∷ 0x4000_468a_8ace_4df6 ∷
    0xbfe9_e377_9b97_f4a8 ∷ 0xbfd0_d2ca_0da1_530d ∷ 0x0000_0000_0000_0000 ∷ 0x3fe0_d2ca_0da1_530d ∷ 0x3fe4_1b2f_769c_f0e0 ∷
    0x3ff4_1b2f_769c_f0e0 ∷ 0x3ff1_b6e1_92eb_be44 ∷
    0xbfe0_0000_0000_0000 ∷ 0x3fc4_cb7b_fb49_61ae ∷ 0x0000_0000_0000_0000 ∷ 0x3feb_3888_0b46_03e4 ∷ 0x3fe4_1b2f_769c_f0e0 ∷
    0x4004_1b2f_769c_f0e0 ∷ 0x3ff1_b6e1_92eb_be44 ∷
    0xbfd3_c6ef_372f_e950 ∷ 0xbfdb_3888_0b46_03e5 ∷ 0x0000_0000_0000_0000 ∷ 0x3feb_3888_0b46_03e4 ∷ 0x3fe4_1b2f_769c_f0e0 ∷
    0x400e_28c7_31eb_6950 ∷ 0x3ff1_b6e1_92eb_be44 ∷
    0x3fd3_c6ef_372f_e950 ∷ 0xbfdb_3888_0b46_03e5 ∷ 0x0000_0000_0000_0000 ∷ 0x3feb_3888_0b46_03e4 ∷ 0x3fe4_1b2f_769c_f0e0 ∷
    0x4011_97c9_87c9_52c4 ∷ 0x4000_468a_8ace_4df6 ∷
    0x3fe9_e377_9b97_f4a8 ∷ 0xbfd0_d2ca_0da1_530d ∷ 0x0000_0000_0000_0000 ∷ 0x3fe0_d2ca_0da1_530d ∷ 0x3fe4_1b2f_769c_f0e0 ∷
    0x4009_21fb_5444_2d18 ∷ 0x4000_468a_8ace_4df6 ∷
    0x0000_0000_0000_0000 ∷ 0xbfeb_3888_0b46_03e4 ∷ 0x0000_0000_0000_0000 ∷ 0x3fe0_d2ca_0da1_530d ∷ 0x3fe4_1b2f_769c_f0e0 ∷
    0x0000_0000_0000_0000 ∷ 0x4009_21fb_5444_2d18 ∷
    0x0000_0000_0000_0000 ∷ 0xbff0_0000_0000_0000 ∷ 0x0000_0000_0000_0000 ∷ 0x0000_0000_0000_0000 ∷ 0x0000_0000_0000_0000 ∷
    0x4016_9e95_6570_8efc ∷ 0x4000_468a_8ace_4df6 ∷
    0x3fe0_0000_0000_0000 ∷ 0x3fe6_05a9_0c73_ab79 ∷ 0x0000_0000_0000_0000 ∷ 0x3fe0_d2ca_0da1_530d ∷ 0x3fe4_1b2f_769c_f0e0 ∷
    0x4014_1b2f_769c_f0e0 ∷ 0x3ff1_b6e1_92eb_be44 ∷
    0x3fe0_0000_0000_0000 ∷ 0x3fc4_cb7b_fb49_61ae ∷ 0x0000_0000_0000_0000 ∷ 0x3feb_3888_0b46_03e4 ∷ 0x3fe4_1b2f_769c_f0e0 ∷
    [])

pub built_in : ORIGINS ≡ BITS
unfolding ORIGINS BITS generated_table of_bits quick
built_in = in_ieee (λ (A : Arith). generated_table A ≡ BITS) refl

pub built_in_rows : length ORIGINS ≡ 84
unfolding BITS
built_in_rows = ap length built_in
