-- Paper 7's limit, by computation (`at_the_limit`). Assumes nothing.
use mathlib.Core.Path.{refl}
use lib.Ieee.{of_bits, div}
use Rattle.elementary.specs.Sine.{beyond, unless_outside, sin_cos_given, sin_given, cos_given, tan_given, sin, cos, tan, sin_cos}
use Rattle.known_points.specs.Outside.{AtTheLimit}

pub at_the_limit : AtTheLimit
unfolding beyond unless_outside sin_cos_given sin_given cos_given tan_given of_bits
at_the_limit =
    record {
      at_64 = refl;
      at_minus_64 = refl;
      next_above = refl;
      next_below = refl;
      largest = refl;
      sine_outside = refl;
      cosine_outside = refl;
      both_outside = refl;
      tangent_outside = refl;
      sine_inside = refl;
      cosine_inside = refl;
      tangent_inside = refl;
      infinite = unfold sin sin_cos in refl;
      minus_infinite = unfold cos sin_cos in refl;
      not_a_number = unfold tan sin_cos div in refl;
    }
