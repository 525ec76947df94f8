-- Samples of the elementary steps: each value has the bits that document 01's steps give in Python, whose floats are IEEE 754's too.
-- Computed in `quick`. Assumes nothing.
use mathlib.Core.Path.{◌≡◌, refl}
use Prim.Native.Nat.{ℕ}
use lib.Ieee.{Float, binary64, of_bits}
use Rattle.arithmetic.specs.Arith.{Arith, ieee}
use Rattle.arithmetic.proofs.Quick.{quick, in_ieee}
use Rattle.elementary.specs.Sine.{sin, cos, tan}
use Rattle.elementary.specs.Arctangent.{core, atan, atan2}

abbrev float : ℕ → Float
float b = of_bits binary64 b

pub record Samples (A : Arith) : Type 0 where
  -- sin 1.0 = 0.8414709848078965
  pub sin_1 : sin A (float 0x3ff0_0000_0000_0000) ≡ float 0x3fea_ed54_8f09_0cee
  -- cos 1.0 = 0.5403023058681398
  pub cos_1 : cos A (float 0x3ff0_0000_0000_0000) ≡ float 0x3fe1_4a28_0fb5_068c
  -- sin 3.0 = 0.1411200080598672
  pub sin_3 : sin A (float 0x4008_0000_0000_0000) ≡ float 0x3fc2_1038_6db6_d55b
  -- cos 5.0 = 0.2836621854632263
  pub cos_5 : cos A (float 0x4014_0000_0000_0000) ≡ float 0x3fd2_2785_706b_4ada
  -- cos -4.0 = -0.6536436208636119
  pub cos_minus_4 : cos A (float 0xc010_0000_0000_0000) ≡ float 0xbfe4_eaa6_06db_24c1
  -- sin 100.0 = -0.5063656411097556
  pub sin_100 : sin A (float 0x4059_0000_0000_0000) ≡ float 0xbfe0_3425_b78c_4d9b
  -- sin -0.0 = -0.0
  pub sin_minus_0 : sin A (float 0x8000_0000_0000_0000) ≡ float 0x8000_0000_0000_0000
  -- tan 1.0 = 1.557407724654902
  pub tan_1 : tan A (float 0x3ff0_0000_0000_0000) ≡ float 0x3ff8_eb24_5cbe_e3a5
  -- core 0.5 = 0.4636476090008061
  pub core_half : core A (float 0x3fe0_0000_0000_0000) ≡ float 0x3fdd_ac67_0561_bb4f
  -- core 2.0 = 1.1071487177940906
  pub core_2 : core A (float 0x4000_0000_0000_0000) ≡ float 0x3ff1_b6e1_92eb_be45
  -- atan 1.0 = 0.7853981633974484
  pub atan_1 : atan A (float 0x3ff0_0000_0000_0000) ≡ float 0x3fe9_21fb_5444_2d19
  -- atan -3.0 = -1.2490457723982544
  pub atan_minus_3 : atan A (float 0xc008_0000_0000_0000) ≡ float 0xbff3_fc17_6b7a_8560
  -- atan -0.0 = -0.0
  pub atan_minus_0 : atan A (float 0x8000_0000_0000_0000) ≡ float 0x8000_0000_0000_0000
  -- atan inf = 1.5707963267948966
  pub atan_infinity : atan A (float 0x7ff0_0000_0000_0000) ≡ float 0x3ff9_21fb_5444_2d18
  -- atan2 1.0 -1.0 = 2.356194490192345
  pub atan2_1_minus_1 : atan2 A (float 0x3ff0_0000_0000_0000) (float 0xbff0_0000_0000_0000) ≡ float 0x4002_d97c_7f33_21d2
  -- atan2 3.0 4.0 = 0.6435011087932844
  pub atan2_3_4 : atan2 A (float 0x4008_0000_0000_0000) (float 0x4010_0000_0000_0000) ≡ float 0x3fe4_978f_a326_9ee1
  -- atan2 -4.0 3.0 = -0.9272952180016122
  pub atan2_minus_4_3 : atan2 A (float 0xc010_0000_0000_0000) (float 0x4008_0000_0000_0000) ≡ float 0xbfed_ac67_0561_bb4f
  -- atan2 -0.0 -0.0 = -3.141592653589793
  pub atan2_minus_zeros : atan2 A (float 0x8000_0000_0000_0000) (float 0x8000_0000_0000_0000) ≡ float 0xc009_21fb_5444_2d18

pub samples : Samples ieee
unfolding sin cos tan core atan atan2 of_bits quick
samples =
    in_ieee Samples
    (record {
      sin_1 = refl;
      cos_1 = refl;
      sin_3 = refl;
      cos_5 = refl;
      cos_minus_4 = refl;
      sin_100 = refl;
      sin_minus_0 = refl;
      tan_1 = refl;
      core_half = refl;
      core_2 = refl;
      atan_1 = refl;
      atan_minus_3 = refl;
      atan_minus_0 = refl;
      atan_infinity = refl;
      atan2_1_minus_1 = refl;
      atan2_3_4 = refl;
      atan2_minus_4_3 = refl;
      atan2_minus_zeros = refl;
    })
