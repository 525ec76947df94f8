-- The sign bit: the pattern of a value is that of its size, which is below 2 ^ 63, and 2 ^ 63 more where the value is negative. A NaN is made
-- by 0 / 0. Assumes nothing.
use mathlib.Core.Path.{◌≡◌, refl, ap, ◌∙◌}
use Prim.Native.Nat.{ℕ, zero, suc, ◌+◌, ◌%◌, ◌^◌, ◌<◌}
use native.Mathlib.Omega.{arith}
use mathlib.Core.Bool.{Bool, true, false, not, cond}
use borrow.Author.Tests.{le-leb, lt-leb}
use lib.Dec.{T, leb}
use lib.Ieee.{Float, nan, inf, fin, binary64, div, neg, of_bits, to_bits, nan_bits, is_nan, fits}
use lib.Ieee.Bits.{of_bits-to_bits, to_bits-lt, nan_bits_is}
use lib.Ieee.Fits.{neg-fits, inf-fits}
use Rattle.std.specs.Float.{is_sign_negative}
use Rattle.elementary.specs.Signs.{abs, negative}

-- NaN as the code makes it
pub zero_by_zero : div binary64 (of_bits binary64 0) (of_bits binary64 0) ≡ nan
unfolding div of_bits
zero_by_zero = refl

-- ---- what std says

pub negative_number : (x : Float) → is_nan x ≡ false → negative x ≡ is_sign_negative x
unfolding negative is_nan is_sign_negative
negative_number nan n = refl
negative_number (inf s) n = refl
negative_number (fin s m e) n = refl

pub the_nan : (x : Float) → is_nan x ≡ true → x ≡ nan
unfolding is_nan
the_nan nan n = refl
the_nan (inf s) n = cc
the_nan (fin s m e) n = cc

pub negative_nan : (x : Float) → is_nan x ≡ true → negative x ≡ false
unfolding negative
negative_nan x n = ap negative (the_nan x n)

-- ---- the size

pub abs_fits : (x : Float) → T (fits binary64 x) → T (fits binary64 (abs x))
unfolding abs fits
abs_fits nan h = h
abs_fits (inf s) h = h
abs_fits (fin s zero e) h = h
abs_fits (fin s (suc m) e) h = h

abs_number : (x : Float) → T (not (is_nan x)) → T (not (is_nan (abs x)))
unfolding abs is_nan
abs_number nan n = n
abs_number (inf s) n = n
abs_number (fin s m e) n = n

pub abs_positive : (x a : Float) → a ≡ abs x → negative a ≡ false
abs_positive x a e = ap negative e ∙ at x
  where
    at : (x : Float) → negative (abs x) ≡ false
    at nan = unfold abs negative in refl
    at (inf s) = unfold abs negative in refl
    at (fin s m e) = unfold abs negative in refl

-- ---- the pattern in two parts

two_parts : (x : Float) → T (not (is_nan x)) → to_bits binary64 x ≡ cond (negative x) (2 ^ 63) 0 + to_bits binary64 (abs x)
unfolding to_bits abs negative is_nan
two_parts nan n = absurd n
two_parts (inf true) n = refl
two_parts (inf false) n = refl
two_parts (fin true m e) n = omega arith
two_parts (fin false m e) n = omega arith

-- the pattern of the size with the sign bit set is below 2 ^ 64
size_below : (x : Float) → T (fits binary64 x) → T (not (is_nan x)) → to_bits binary64 (abs x) < 2 ^ 63
unfolding abs neg is_nan negative
size_below nan h n = absurd n
size_below (inf s) h n = omega (arith, two_parts (inf true) tt, to_bits-lt binary64 (inf true) (inf-fits binary64 true))
size_below (fin s m e) h n =
    let fits = neg-fits binary64 (fin false m e) (abs_fits (fin s m e) h) in
    omega (arith, two_parts (fin true m e) tt, to_bits-lt binary64 (fin true m e) fits)

parts : (b : Bool) (p a : ℕ) → p ≡ cond b (2 ^ 63) 0 + a → a < 2 ^ 63 → (p % 2 ^ 63 ≡ a) × (leb (2 ^ 63) p ≡ b)
parts true p a e h = (omega arith, le-leb (2 ^ 63) p (omega arith))
parts false p a e h = (omega arith, lt-leb (2 ^ 63) p (omega arith))

module _ (x : Float) (h : T (fits binary64 x)) (n : T (not (is_nan x))) where
  split : (to_bits binary64 x % 2 ^ 63 ≡ to_bits binary64 (abs x)) × (leb (2 ^ 63) (to_bits binary64 x) ≡ negative x)
  split = parts (negative x) (to_bits binary64 x) (to_bits binary64 (abs x)) (two_parts x n) (size_below x h n)

  pub sign_bit : leb (2 ^ 63) (to_bits binary64 x) ≡ negative x
  sign_bit = split.1

  -- with the sign bit cleared it is the pattern of the size, and no NaN's
  pub cleared : of_bits binary64 (to_bits binary64 x % 2 ^ 63) ≡ abs x
  cleared = ap (of_bits binary64) split.0 ∙ of_bits-to_bits binary64 (abs x) (abs_fits x h)

  pub cleared_number : T (not (nan_bits binary64 (to_bits binary64 x % 2 ^ 63)))
  cleared_number = rw (nan_bits_is, cleared) (abs_number x n)
