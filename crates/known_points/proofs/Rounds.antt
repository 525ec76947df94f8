-- Paper 2's samples hold, each by computation. Assumes nothing.
use mathlib.Core.Path.{refl}
use lib.Ieee.{of_bits}
use Rattle.arithmetic.specs.Rounds.{sqrt_rounds}
use Rattle.known_points.specs.Rounds.{RoundsMarked}

pub rounds_marked : RoundsMarked
unfolding sqrt_rounds of_bits
rounds_marked =
    record {
      of_4 = refl;
      of_9 = refl;
      of_2 = refl;
      of_least = refl;
      of_twice_least = refl;
      of_27_digits = refl;
      of_next = refl;
      of_0 = refl;
      of_minus_0 = refl;
      of_minus_1 = refl;
      of_infinity = refl;
      of_minus_infinity = refl;
      of_nan = refl;
    }
