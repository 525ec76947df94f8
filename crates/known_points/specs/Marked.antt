-- Document 01, "Known points": those marked (M), as one claim, in its order. A value is written by its bits, with the number beside it. Definitions only.
use Rattle.std.specs.Prelude.{◌≡◌}
use Rattle.std.specs.Float.{binary64}
use Rattle.std.specs.Float.Ieee.{neg, of_bits}
use Rattle.arithmetic.specs.Arith.{ieee}
use Rattle.arithmetic.specs.Sqrt.{sqrt}
use Rattle.arithmetic.specs.Numbers.{0·0}
use Rattle.elementary.specs.Whole.{floor, round}
use Rattle.coordinates.specs.CoordinateTransforms.{degrees, radians, normalize_longitude}
use Rattle.origin.specs.Constants.{PI_OVER_5}
use Rattle.tiling.specs.Index.{triangle_index}

pub record Marked : Type 0 where
  -- "normalize_longitude of 180, −180 and 540 gives −180"
  pub longitude_of_180 : normalize_longitude ieee (degrees (of_bits binary64 0x4066_8000_0000_0000)) ≡ degrees (of_bits binary64 0xc066_8000_0000_0000)
  pub longitude_of_minus_180 : normalize_longitude ieee (degrees (of_bits binary64 0xc066_8000_0000_0000)) ≡ degrees (of_bits binary64 0xc066_8000_0000_0000)
  pub longitude_of_540 : normalize_longitude ieee (degrees (of_bits binary64 0x4080_e000_0000_0000)) ≡ degrees (of_bits binary64 0xc066_8000_0000_0000)
  -- "of −93 gives −93"
  pub longitude_of_minus_93 : normalize_longitude ieee (degrees (of_bits binary64 0xc057_4000_0000_0000)) ≡ degrees (of_bits binary64 0xc057_4000_0000_0000)
  -- "sqrt 4 is 2"
  pub root_of_4 : sqrt (of_bits binary64 0x4010_0000_0000_0000) ≡ of_bits binary64 0x4000_0000_0000_0000
  -- "of 2 has bits 3ff6a09e667f3bcd"
  pub root_of_2 : sqrt (of_bits binary64 0x4000_0000_0000_0000) ≡ of_bits binary64 0x3ff6_a09e_667f_3bcd
  -- "of −0 is −0"
  pub root_of_minus_0 : sqrt (of_bits binary64 0x8000_0000_0000_0000) ≡ of_bits binary64 0x8000_0000_0000_0000
  -- "of 2^−1074 is 2^−537"
  pub root_of_least : sqrt (of_bits binary64 0x0000_0000_0000_0001) ≡ of_bits binary64 0x1e60_0000_0000_0000
  -- "floor −0.5 is −1"
  pub floor_of_minus_half : floor ieee (of_bits binary64 0xbfe0_0000_0000_0000) ≡ of_bits binary64 0xbff0_0000_0000_0000
  -- "round 0.5 is 1"
  pub round_of_half : round ieee (of_bits binary64 0x3fe0_0000_0000_0000) ≡ of_bits binary64 0x3ff0_0000_0000_0000
  -- "−2.5 is −3"
  pub round_of_minus_5_halves : round ieee (of_bits binary64 0xc004_0000_0000_0000) ≡ of_bits binary64 0xc008_0000_0000_0000
  -- "gamma −π/5 gives index 9", π/5 being the quotient of the double π and 5.0
  pub index_minus_fifth : triangle_index ieee (radians (neg PI_OVER_5)) ≡ 9
  -- "gamma 0 gives 0"
  pub index_0 : triangle_index ieee (radians 0·0) ≡ 0
