-- Paper 2's samples, "4 gives 1, 9 gives 2 and 2 gives 53", and values at the ends of the format, by their bits. Definitions only.
use Rattle.std.specs.Prelude.{◌≡◌}
use Rattle.std.specs.Float.{binary64}
use Rattle.std.specs.Float.Ieee.{of_bits}
use Rattle.arithmetic.specs.Rounds.{sqrt_rounds}

pub record RoundsMarked : Type 0 where
  pub of_4 : sqrt_rounds (of_bits binary64 0x4010_0000_0000_0000) ≡ 1
  pub of_9 : sqrt_rounds (of_bits binary64 0x4022_0000_0000_0000) ≡ 2
  pub of_2 : sqrt_rounds (of_bits binary64 0x4000_0000_0000_0000) ≡ 53
  -- 2^−1074, the smallest value, and twice that
  pub of_least : sqrt_rounds (of_bits binary64 0x0000_0000_0000_0001) ≡ 1
  pub of_twice_least : sqrt_rounds (of_bits binary64 0x0000_0000_0000_0002) ≡ 53
  -- 94906265^2, a square of 27 digits that has 53, and the value after it
  pub of_27_digits : sqrt_rounds (of_bits binary64 0x433f_ffff_f8ef_f971) ≡ 27
  pub of_next : sqrt_rounds (of_bits binary64 0x433f_ffff_f8ef_f972) ≡ 53
  -- 0.0, −0.0, −1.0, the infinities and a NaN
  pub of_0 : sqrt_rounds (of_bits binary64 0x0000_0000_0000_0000) ≡ 0
  pub of_minus_0 : sqrt_rounds (of_bits binary64 0x8000_0000_0000_0000) ≡ 0
  pub of_minus_1 : sqrt_rounds (of_bits binary64 0xbff0_0000_0000_0000) ≡ 0
  pub of_infinity : sqrt_rounds (of_bits binary64 0x7ff0_0000_0000_0000) ≡ 0
  pub of_minus_infinity : sqrt_rounds (of_bits binary64 0xfff0_0000_0000_0000) ≡ 0
  pub of_nan : sqrt_rounds (of_bits binary64 0x7ff8_0000_0000_0000) ≡ 0
