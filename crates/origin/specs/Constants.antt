-- core/constants.rs: what the projection uses of it. Definitions only.
use Rattle.std.specs.Prelude.{Float}
use Rattle.std.specs.Float.{binary64}
use Rattle.std.specs.Float.Ieee.{div, of_bits}
use Rattle.elementary.specs.Constants.{TAU, PI}

-- 5.0
abbrev pub 5·0 : Float
5·0 = of_bits binary64 0x4014_0000_0000_0000

-- TAU / 5.0
unfoldable pub TWO_PI_OVER_5 : Float
unfolding div TAU of_bits
TWO_PI_OVER_5 = div binary64 TAU 5·0

-- PI / 5.0
unfoldable pub PI_OVER_5 : Float
unfolding div PI of_bits
PI_OVER_5 = div binary64 PI 5·0

-- 1.1071487177940904
unfoldable pub INTERHEDRAL_ANGLE : Float
unfolding of_bits
INTERHEDRAL_ANGLE = of_bits binary64 0x3ff1_b6e1_92eb_be44

-- 0.6180339887498949
unfoldable pub DISTANCE_TO_EDGE : Float
unfolding of_bits
DISTANCE_TO_EDGE = of_bits binary64 0x3fe3_c6ef_372f_e950

-- 0.7639320225002102
unfoldable pub DISTANCE_TO_VERTEX : Float
unfolding of_bits
DISTANCE_TO_VERTEX = of_bits binary64 0x3fe8_7221_91a0_2d60
