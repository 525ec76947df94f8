-- What atan and atan2 come to at each way through the code. Assumes nothing.
use Rattle.std.proofs.Common.{◌≡◌, Bool, true, false, ◌&&◌, sym, refl, ap, ◌∙◌}
use Rattle.std.proofs.lemmas.Bool.{and_left}
use lib.Ieee.{Float, nan, inf, fin, binary64, add, sub, mul, div, le, eq}
use Rattle.answer.specs.Number.{is_finite}
use Rattle.arithmetic.specs.Arith.{ieee}
use Rattle.arithmetic.specs.Numbers.{0·0}
use Rattle.elementary.specs.Constants.{PI, FRAC_PI_2}
use Rattle.elementary.specs.Signs.{abs, negative, with_sign}
use Rattle.elementary.specs.Arctangent.{core, atan_size, atan, tangent, atan2_base, atan2}

-- the test of the first passed, so the second decides
pub and_then : (p q r : Bool) → p ≡ true → q ≡ r → (p && q) ≡ r
and_then p q r e f = ap (λ (b : Bool). b && q) e ∙ f

-- a NaN needs no test of its own: every step of a NaN gives a NaN
nan_size : atan_size ieee nan ≡ nan
unfolding atan_size add sub mul div
nan_size = refl

pub atan_is : (x : Float) → with_sign (negative x) (atan_size ieee (abs x)) ≡ atan ieee x
unfolding atan abs negative
atan_is nan = nan_size
atan_is (inf s) = refl
atan_is (fin s m e) = refl

module _ (a b : Float) where
  pub base_zero : eq a 0·0 ≡ true → eq b 0·0 ≡ true → atan2_base ieee a b ≡ 0·0
  unfolding atan2_base
  base_zero e f = rw (and_then _ _ _ e f, atan2_base)

  pub tangent_low : le a b ≡ true → tangent ieee a b ≡ div binary64 a b
  unfolding tangent
  tangent_low f = rw (f, tangent)

  pub tangent_high : le a b ≡ false → tangent ieee a b ≡ div binary64 b a
  unfolding tangent
  tangent_high f = rw (f, tangent)

  -- from the angle of the tangent
  module _ (c : Float) (is : c ≡ core ieee (tangent ieee a b)) (some : (eq a 0·0 && eq b 0·0) ≡ false) where
    pub base_low : le a b ≡ true → atan2_base ieee a b ≡ c
    unfolding atan2_base
    base_low f = rw (some, atan2_base) (rw f) ∙ ap (core ieee) (sym (tangent_low f)) ∙ sym is

    pub base_high : le a b ≡ false → atan2_base ieee a b ≡ sub binary64 FRAC_PI_2 c
    unfolding atan2_base
    base_high f =
        rw (some, atan2_base) (rw f)
        ∙ ap (λ (t : Float). sub binary64 FRAC_PI_2 (core ieee t)) (sym (tangent_high f))
        ∙ ap (sub binary64 FRAC_PI_2) (sym is)

module _ (y x : Float) where
  pub atan2_nan : (is_finite y && is_finite x) ≡ false → atan2 ieee y x ≡ nan
  unfolding atan2
  atan2_nan e = rw (e, atan2)

  module _ (f : (is_finite y && is_finite x) ≡ true) where
    pub atan2_left : negative x ≡ true → atan2 ieee y x ≡ with_sign (negative y) (sub binary64 PI (atan2_base ieee (abs y) (abs x)))
    unfolding atan2
    atan2_left e = rw (f, atan2) (rw e)

    pub atan2_right : negative x ≡ false → atan2 ieee y x ≡ with_sign (negative y) (atan2_base ieee (abs y) (abs x))
    unfolding atan2
    atan2_right e = rw (f, atan2) (rw e)

-- the cases of atan2's base, and those of atan2
pub ruleset bases = (and_left, and_then, base_zero, base_low, base_high)

pub ruleset atan2s = (and_left, and_then, atan2_nan, atan2_left, atan2_right)
