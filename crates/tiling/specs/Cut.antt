-- What the code takes of a float that is a whole number already: the Rust's `as i32`, on whole numbers without bounds. Definitions only.
use Rattle.std.specs.Prelude.{◌*◌, ◌/◌, ℤ, pos, Float}
use Rattle.std.specs.Float.{nan, inf, fin}
use Rattle.std.specs.Float.Ieee.{up, down}
use Rattle.elementary.specs.Whole.{signed}

-- toward zero; 0 where x is not finite
unfoldable pub as_whole : Float → ℤ
as_whole nan = pos 0
as_whole (inf s) = pos 0
as_whole (fin s m e) = signed s (m * up e / down e)
