-- Paper 7: "outside" is for finite arguments beyond ±64. What a reader would try at the limit. Values are written by their bits. Definitions only.
use Rattle.std.specs.Prelude.{◌≡◌, true, false}
use Rattle.std.specs.Float.{nan, inf, binary64}
use Rattle.std.specs.Float.Ieee.{of_bits}
use Rattle.answer.specs.Given.{answered, refused}
use Rattle.arithmetic.specs.Arith.{ieee}
use Rattle.elementary.specs.Sine.{outside, sin_cos_given, sin_given, cos_given, tan_given, sin, cos, tan}

pub record AtTheLimit : Type 0 where
  -- 64 and −64 are inside
  pub at_64 : outside (of_bits binary64 0x4050_0000_0000_0000) ≡ false
  pub at_minus_64 : outside (of_bits binary64 0xc050_0000_0000_0000) ≡ false
  -- the next double beyond each is outside, and so is the largest
  pub next_above : outside (of_bits binary64 0x4050_0000_0000_0001) ≡ true
  pub next_below : outside (of_bits binary64 0xc050_0000_0000_0001) ≡ true
  pub largest : outside (of_bits binary64 0x7fef_ffff_ffff_ffff) ≡ true
  -- "outside" is 19, from each of the four
  pub sine_outside : sin_given ieee (of_bits binary64 0x4050_0000_0000_0001) ≡ refused 19
  pub cosine_outside : cos_given ieee (of_bits binary64 0x4050_0000_0000_0001) ≡ refused 19
  pub both_outside : sin_cos_given ieee (of_bits binary64 0x4050_0000_0000_0001) ≡ refused 19
  pub tangent_outside : tan_given ieee (of_bits binary64 0x4050_0000_0000_0001) ≡ refused 19
  -- at 64 each answers document 01's value
  pub sine_inside : sin_given ieee (of_bits binary64 0x4050_0000_0000_0000) ≡ answered (sin ieee (of_bits binary64 0x4050_0000_0000_0000))
  pub cosine_inside : cos_given ieee (of_bits binary64 0x4050_0000_0000_0000) ≡ answered (cos ieee (of_bits binary64 0x4050_0000_0000_0000))
  pub tangent_inside : tan_given ieee (of_bits binary64 0x4050_0000_0000_0000) ≡ answered (tan ieee (of_bits binary64 0x4050_0000_0000_0000))
  -- infinities and NaN are not outside: their sine, cosine and tangent are NaN as before
  pub infinite : sin_given ieee (inf false) ≡ answered nan
  pub minus_infinite : cos_given ieee (inf true) ≡ answered nan
  pub not_a_number : tan_given ieee nan ≡ answered nan
