-- What IEEE 754 asks of the square root r of a finite x above zero: of all values of the format r is the nearest to the root of x. Said by
-- comparing squares, without the root. Definitions only.
use Rattle.std.specs.Prelude.{ℕ, ◌+◌, ◌-◌, ◌*◌, ◌<◌, true, false, T, Float}
use Rattle.std.specs.Float.{nan, inf, fin, binary64}
use Rattle.std.specs.Float.Ieee.{fits, lt}
use Rattle.std.specs.Float.Ieee.Scale.{finite}
use Rattle.std.specs.Float.Ieee.Positive.{num, den, positive}

-- y + r for an r above zero, over den y * den r, where num / den is a value's size. It is 0 where y + r is negative.
abbrev pub sum_over : Float → Float → ℕ
sum_over nan r = 0
sum_over (inf s) r = 0
sum_over (fin false n d) r = num (fin false n d) * den r + num r * den (fin false n d)
sum_over (fin true n d) r = num r * den (fin true n d) - num (fin true n d) * den r

-- (y + r) ^ 2 and 4 * x over the same denominators: the first is the smaller exactly where the midpoint of y and r, (y + r) / 2, lies below the root of x
abbrev pub sum_squared : Float → Float → Float → ℕ
sum_squared x y r = sum_over y r * sum_over y r * den x

abbrev pub four_times : Float → Float → Float → ℕ
four_times x y r = 4 * num x * (den y * den r * (den y * den r))

pub record IsRoot (x r : Float) : Type 0 where
  -- r is finite, above zero and a value of the format: no overflow
  pub above_zero : T (positive r)
  pub held : T (fits binary64 r)
  -- every finite value of the format below r has its midpoint with r below the root, and every one above r has it above the root: r is
  -- nearer to the root than any other value, and none is as near, so there is no tie
  pub from_below : (y : Float) → T (fits binary64 y) → T (finite y) → T (lt y r) → sum_squared x y r < four_times x y r
  pub from_above : (y : Float) → T (fits binary64 y) → T (finite y) → T (lt r y) → four_times x y r < sum_squared x y r
