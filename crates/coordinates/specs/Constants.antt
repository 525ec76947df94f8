-- Numbers of the Rust, by their bits, with the decimal form beside them. Definitions only.
use Rattle.std.specs.Prelude.{List, [], ◌∷◌, map, Float}
use Rattle.std.specs.Float.{binary64}
use Rattle.std.specs.Float.Ieee.{of_bits}

-- 2.0
abbrev pub 2·0 : Float
2·0 = of_bits binary64 0x4000_0000_0000_0000

-- 8.0
abbrev pub 8·0 : Float
8·0 = of_bits binary64 0x4020_0000_0000_0000

-- 90.0
abbrev pub 90·0 : Float
90·0 = of_bits binary64 0x4056_8000_0000_0000

-- 180.0
abbrev pub 180·0 : Float
180·0 = of_bits binary64 0x4066_8000_0000_0000

-- 360.0
abbrev pub 360·0 : Float
360·0 = of_bits binary64 0x4076_8000_0000_0000

-- 93.0, coordinate_transforms.rs
abbrev pub LONGITUDE_OFFSET : Float
LONGITUDE_OFFSET = of_bits binary64 0x4057_4000_0000_0000

-- authalic.rs: -2.2392098386786394e-03, 2.1308606513250217e-06, -2.5592576864212742e-09, 3.3701965267802837e-12, -4.6675453126112487e-15,
-- 6.6749287038481596e-18
unfoldable pub GEODETIC_TO_AUTHALIC : List Float
unfolding of_bits
GEODETIC_TO_AUTHALIC =
    map (of_bits binary64)
    (0xbf62_57f6_a0d5_0af0 ∷ 0x3ec1_dffd_081a_495c ∷ 0xbe25_fbdd_fed0_2cad ∷ 0x3d8d_a502_0676_01d9 ∷ 0xbcf5_0550_38aa_310c ∷ 0x3c5e_c85d_69dd_e707 ∷ [])

-- authalic.rs: 2.2392089963541657e-03, 2.8831978048607556e-06, 5.0862207399726603e-09, 1.0201812377816100e-11, 2.1912872306767718e-14,
-- 4.9284235482523806e-17
unfoldable pub AUTHALIC_TO_GEODETIC : List Float
unfolding of_bits
AUTHALIC_TO_GEODETIC =
    map (of_bits binary64)
    (0x3f62_57f6_2d10_6291 ∷ 0x3ec8_2f9e_c17c_d9c4 ∷ 0x3e35_d85b_dd44_ab56 ∷ 0x3da6_6f1c_1c0b_0bff ∷ 0x3d18_abf4_96e6_478d ∷ 0x3c8c_6911_c632_c55a ∷ [])
