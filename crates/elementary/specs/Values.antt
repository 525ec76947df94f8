-- What floor and round are on values (document 01: "Floor is downward", "Round takes halves away from zero"): r is the whole number below x, or nearest to x.
-- Each has x's sign, so the facts compare sizes, which are num / den, by cross-multiplication. Definitions only.
use Rattle.std.specs.Prelude.{◌≡◌, ◌+◌, ◌*◌, ◌%◌, ◌<◌, ◌≤◌, Bool, true, false, T, Float}
use Rattle.std.specs.Float.{binary64}
use Rattle.std.specs.Float.Ieee.{fits}
use Rattle.std.specs.Float.Ieee.Scale.{finite}
use Rattle.std.specs.Float.Ieee.Positive.{num, den}
use Rattle.elementary.specs.Signs.{negative}

-- a whole number of the format, with x's sign
pub record WholeLike (x r : Float) : Type 0 where
  -- neither infinite nor a NaN, and a value that f64 holds
  pub number : T (finite r)
  pub held : T (fits binary64 r)
  -- no fraction is left of its size
  pub whole : num r % den r ≡ 0
  -- the sign bit of x, also for a zero
  pub sign : negative r ≡ negative x

-- y ≤ z, for two values with the sign s: of negative ones the larger has the smaller size
abbrev pub AtMost : Bool → Float → Float → Type 0
AtMost false y z = num y * den z ≤ num z * den y
AtMost true y z = num z * den y ≤ num y * den z

-- y < z + 1 in the same way: the size of y is below that of z plus 1; or, of negative ones, the size of z is below that of y plus 1
abbrev pub BelowNext : Bool → Float → Float → Type 0
BelowNext false y z = num y * den z < (num z + den z) * den y
BelowNext true y z = num z * den y < (num y + den y) * den z

-- r ≤ x < r + 1
pub record FloorOf (x r : Float) : Type 0 where
  pub like : WholeLike x r
  pub at_most : AtMost (negative x) r x
  pub below_next : BelowNext (negative x) x r

-- |r| ≤ |x| + 1/2 and |x| < |r| + 1/2: r is no further from x than a half, and where x lies halfway between two whole numbers it is
-- not the one of the smaller size
pub record RoundOf (x r : Float) : Type 0 where
  pub like : WholeLike x r
  pub half_above : 2 * num r * den x ≤ (2 * num x + den x) * den r
  pub half_below : 2 * num x * den r < (2 * num r + den r) * den x
