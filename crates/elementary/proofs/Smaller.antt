-- A value that is smaller than the divisor is its own remainder. Assumes nothing.
use mathlib.Core.Path.{◌≡◌, refl, sym}
use Prim.Native.Nat.{◌*◌}
use mathlib.Core.Bool.{true, false≢true}
use borrow.Author.Tests.{ltb-true}
use lib.Dec.{T}
use lib.Ieee.{Float, nan, inf, fin, binary64, up, down, rem, lt, fits}
use Rattle.arithmetic.proofs.Remainder.{rem_below}
use Rattle.elementary.specs.Signs.{abs}

pub own_remainder : (x y : Float) → T (fits binary64 x) → lt (abs x) (abs y) ≡ true → x ≡ rem binary64 x y
unfolding lt abs rem
own_remainder nan y h l = absurd (false≢true l)
own_remainder (inf s) nan h l = absurd (false≢true l)
own_remainder (inf s) (inf t) h l = absurd (false≢true l)
own_remainder (inf s) (fin t n d) h l = absurd (false≢true l)
own_remainder (fin s m e) nan h l = absurd (false≢true l)
own_remainder (fin s m e) (inf t) h l = refl
own_remainder (fin s m e) (fin t n d) h l = sym (rem_below binary64 s m e t n d h (ltb-true (m * up e * down d) (n * up d * down e) l))
