-- What std calls finite. Assumes nothing.
use mathlib.Core.Path.{◌≡◌, refl}
use lib.Ieee.{Float, nan, inf, fin}
use Rattle.std.specs.Float.{float_is_finite}
use Rattle.answer.specs.Number.{is_finite}

pub finite_is : (x : Float) → float_is_finite x ≡ is_finite x
unfolding float_is_finite is_finite
finite_is nan = refl
finite_is (inf s) = refl
finite_is (fin s m e) = refl
