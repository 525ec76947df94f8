-- Document 01's marked points hold, each by computation: longitudes and roots in lib.Ieee's own arithmetic, the others in `quick`. Assumes nothing.
use mathlib.Core.Path.{◌≡◌, refl}
use lib.Ieee.{binary64, add, sub, rem, neg, of_bits}
use Rattle.arithmetic.specs.Sqrt.{sqrt}
use Rattle.arithmetic.proofs.Quick.{quick, in_ieee}
use Rattle.arithmetic.specs.Numbers.{0·0}
use Rattle.elementary.specs.Whole.{floor, floorℤ, round}
use Rattle.coordinates.specs.CoordinateTransforms.{radians, normalize_longitude}
use Rattle.origin.specs.Constants.{PI_OVER_5}
use Rattle.tiling.specs.Index.{modulo10, triangle_index}
use Rattle.known_points.specs.Marked.{Marked}

pub marked : Marked
unfolding normalize_longitude add sub rem sqrt floor floorℤ round neg modulo10 triangle_index of_bits quick
marked =
    record {
      longitude_of_180 = refl;
      longitude_of_minus_180 = refl;
      longitude_of_540 = refl;
      longitude_of_minus_93 = refl;
      root_of_4 = refl;
      root_of_2 = refl;
      root_of_minus_0 = refl;
      root_of_least = refl;
      floor_of_minus_half = in_ieee (λ A. floor A (of_bits binary64 0xbfe0_0000_0000_0000) ≡ of_bits binary64 0xbff0_0000_0000_0000) refl;
      round_of_half = in_ieee (λ A. round A (of_bits binary64 0x3fe0_0000_0000_0000) ≡ of_bits binary64 0x3ff0_0000_0000_0000) refl;
      round_of_minus_5_halves = in_ieee (λ A. round A (of_bits binary64 0xc004_0000_0000_0000) ≡ of_bits binary64 0xc008_0000_0000_0000) refl;
      index_minus_fifth = in_ieee (λ A. triangle_index A (radians (neg PI_OVER_5)) ≡ 9) refl;
      index_0 = in_ieee (λ A. triangle_index A (radians 0·0) ≡ 0) refl;
    }
