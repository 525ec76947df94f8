-- The sine of phi at the poles and in both rings is the constant in the code. Computed. Assumes nothing.
use mathlib.Core.Path.{◌≡◌, refl}
use lib.Ieee.{binary64, of_bits}
use Rattle.arithmetic.specs.Arith.{Arith, ieee}
use Rattle.arithmetic.proofs.Quick.{quick, in_ieee}
use Rattle.elementary.specs.Sine.{sin}

pub record AxisSines (A : Arith) : Type 0 where
  -- sin 0.0 = 0.0
  pub north : sin A (of_bits binary64 0) ≡ of_bits binary64 0
  -- sin 1.1071487177940904 = sin 2.0344439357957027 = 0.8944271909999159
  pub upper : sin A (of_bits binary64 0x3ff1_b6e1_92eb_be44) ≡ of_bits binary64 0x3fec_9f25_c5bf_edd9
  pub lower : sin A (of_bits binary64 0x4000_468a_8ace_4df6) ≡ of_bits binary64 0x3fec_9f25_c5bf_edd9
  -- sin 3.141592653589793 = 1.2246467991473532e-16
  pub south : sin A (of_bits binary64 0x4009_21fb_5444_2d18) ≡ of_bits binary64 0x3ca1_a626_3314_5c07

pub axis_sines : AxisSines ieee
unfolding sin of_bits quick
axis_sines = in_ieee AxisSines (record { north = refl; upper = refl; lower = refl; south = refl })
