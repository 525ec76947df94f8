-- Document 01, "Elementary steps": abs and max(0.0), and what it says of signs. Definitions only.
use Rattle.std.specs.Prelude.{Bool, true, false, cond, Float}
use Rattle.std.specs.Float.{nan, inf, fin}
use Rattle.std.specs.Float.Ieee.{lt, neg}
use Rattle.arithmetic.specs.Numbers.{0·0}

-- "Abs clears the sign bit."
unfoldable pub abs : Float → Float
abs nan = nan
abs (inf s) = inf false
abs (fin s m e) = fin false m e

-- "max(0.0) gives the value if above 0, else +0 (also for NaN)": -0 too gives +0.
unfoldable pub max_zero : Float → Float
unfolding lt
max_zero x = cond (lt 0·0 x) x 0·0

-- whether the sign bit is set, also that of -0; a NaN has none here
unfoldable pub negative : Float → Bool
negative nan = false
negative (inf s) = s
negative (fin s m e) = s

-- the value with the sign that a set or clear sign bit stands for, for a value that has none itself
unfoldable pub with_sign : Bool → Float → Float
unfolding neg
with_sign false x = x
with_sign true x = neg x
