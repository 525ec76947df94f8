-- The bits that are written for a NaN. Assumes nothing.
use mathlib.Core.Path.{◌≡◌, refl}
use mathlib.Core.Bool.{true, false≢true}
use lib.Ieee.{Float, nan, inf, fin, binary64, to_bits, is_nan}

pub nan_written : (x : Float) → is_nan x ≡ true → 0x7ff8_0000_0000_0000 ≡ to_bits binary64 x
unfolding to_bits is_nan
nan_written nan n = refl
nan_written (inf s) n = absurd (false≢true n)
nan_written (fin s m e) n = absurd (false≢true n)
