-- The arc tangents of the distances from a face's centre to its vertices and midpoints are the constants in the code. Computed. Assumes nothing.
use mathlib.Core.Path.{◌≡◌, refl}
use lib.Ieee.{binary64, of_bits}
use Rattle.arithmetic.specs.Arith.{Arith, ieee}
use Rattle.arithmetic.proofs.Quick.{quick, in_ieee}
use Rattle.elementary.specs.Arctangent.{atan}
use Rattle.origin.specs.Constants.{DISTANCE_TO_EDGE, DISTANCE_TO_VERTEX}

pub record Angles (A : Arith) : Type 0 where
  -- 0.6523581397843683
  pub vertex : atan A DISTANCE_TO_VERTEX ≡ of_bits binary64 0x3fe4_e01e_2d74_e77e
  -- 0.5535743588970453
  pub midpoint : atan A DISTANCE_TO_EDGE ≡ of_bits binary64 0x3fe1_b6e1_92eb_be45

pub angles : Angles ieee
unfolding atan DISTANCE_TO_VERTEX DISTANCE_TO_EDGE of_bits quick
angles = in_ieee Angles (record { vertex = refl; midpoint = refl })
