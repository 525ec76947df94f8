-- A number within a finite limit is finite. Assumes nothing.
use mathlib.Core.Path.{◌≡◌, refl}
use mathlib.Core.Bool.{Bool, true, false}
use Prim.Native.Nat.{ℕ}
use lib.IntN.{ℤ}
use lib.Ieee.{Float, nan, inf, fin, le, neg, lt, eq}
use Rattle.answer.specs.Number.{is_finite}
use Rattle.origin.specs.Table.{within, sound}

pub finite_within : (s : Bool) (m : ℕ) (e : ℤ) (x : Float) → within (fin s m e) x ≡ sound (fin s m e) x
unfolding is_finite le lt eq neg
finite_within s m e nan = refl
finite_within s m e (inf true) = refl
finite_within s m e (inf false) = refl
finite_within s m e (fin t n d) = refl
