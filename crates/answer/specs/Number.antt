-- The checks of one number (document 01, "Calls and their numbers": "each number is tried for 5 and then 6 before the next one"). Definitions only.
use Rattle.std.specs.Prelude.{Bool, true, false, not, ◌&&◌, Float}
use Rattle.std.specs.Float.{nan, inf, fin}
use Rattle.std.specs.Float.Ieee.{le, neg}
use Rattle.answer.specs.Given.{Given, refuse_if, passed}

-- neither infinite nor a NaN
unfoldable pub is_finite : Float → Bool
is_finite nan = false
is_finite (inf s) = false
is_finite (fin s m e) = true

-- 5 where x is infinite or a NaN, then 6 where it is outside the range from -limit to limit, ends included
unfoldable pub check_number : Float → Float → Given (Unit {0})
check_number x limit =
    refuse_if (not (is_finite x)) 5
    (refuse_if (not (le (neg limit) x && le x limit)) 6
    passed)
