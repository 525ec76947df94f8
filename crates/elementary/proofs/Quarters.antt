-- The pair of sine and cosine after k quarter turns, for each k that the code tells apart; at an argument that is not finite; and that whole turns
-- change nothing. Assumes nothing.
use Rattle.std.proofs.Common.{◌≡◌, ℕ, zero, suc, true, false, T, sym, refl, ap, ◌∙◌, true≢false}
use mathlib.Core.Bool.{false≢true}
use lib.Ieee.{Float, nan, inf, fin, binary64, mul, rem, neg, lt, fits}
use lib.Ieee.Fits.{rem-fits}
use Rattle.answer.specs.Number.{is_finite}
use Rattle.arithmetic.specs.Arith.{ieee}
use Rattle.elementary.specs.Signs.{abs}
use Rattle.elementary.specs.Constants.{TAU, FRAC_2_PI, sine_first, sine_rest, cosine_first, cosine_rest}
use Rattle.elementary.specs.Whole.{roundℤ}
use Rattle.elementary.specs.declared.sine.SinCos.{SinCos}
use Rattle.elementary.specs.Sine.{series, modulo4, whole_float, reduced, sin_cos_reduced, sin_cos_finite, sin_cos}
use Rattle.elementary.proofs.Turn.{left_within, within_finite, within_own}

-- document 01's S and C
abbrev pub S : Float → Float
S r = mul binary64 r (series ieee (mul binary64 r r) sine_first sine_rest)

abbrev pub C : Float → Float
C r = series ieee (mul binary64 r r) cosine_first cosine_rest

module _ (k : ℕ) (r : Float) where
  pub after_0 : k ≡ 0 → sin_cos_reduced ieee k r ≡ record { sin = S r; cos = C r }
  unfolding sin_cos_reduced
  after_0 e = ap (λ (j : ℕ). sin_cos_reduced ieee j r) e

  pub after_1 : k ≡ 1 → sin_cos_reduced ieee k r ≡ record { sin = C r; cos = neg (S r) }
  unfolding sin_cos_reduced
  after_1 e = ap (λ (j : ℕ). sin_cos_reduced ieee j r) e

  pub after_2 : k ≡ 2 → sin_cos_reduced ieee k r ≡ record { sin = neg (S r); cos = neg (C r) }
  unfolding sin_cos_reduced
  after_2 e = ap (λ (j : ℕ). sin_cos_reduced ieee j r) e

  pub after_3 : (k ≡ 0 → ⊥) → (k ≡ 1 → ⊥) → (k ≡ 2 → ⊥) → sin_cos_reduced ieee k r ≡ record { sin = neg (C r); cos = S r }
  after_3 = go k
    where
      go : (j : ℕ) → (j ≡ 0 → ⊥) → (j ≡ 1 → ⊥) → (j ≡ 2 → ⊥) → sin_cos_reduced ieee j r ≡ record { sin = neg (C r); cos = S r }
      go zero a b c = absurd (a refl)
      go (suc zero) a b c = absurd (b refl)
      go (suc (suc zero)) a b c = absurd (c refl)
      go (suc (suc (suc j))) a b c = unfold sin_cos_reduced in refl

-- the four of them
pub ruleset turned = (after_0, after_1, after_2, after_3)

module _ (x : Float) where
  pub otherwise_nan : is_finite x ≡ false → sin_cos ieee x ≡ record { sin = nan; cos = nan }
  otherwise_nan = go x
    where
      go : (x : Float) → is_finite x ≡ false → sin_cos ieee x ≡ record { sin = nan; cos = nan }
      go nan e = unfold sin_cos in refl
      go (inf s) e = unfold sin_cos in refl
      go (fin s m d) e = unfold is_finite in absurd (true≢false e)

  finite_pair : is_finite x ≡ true → sin_cos ieee x ≡ sin_cos_finite ieee x
  finite_pair = go x
    where
      go : (x : Float) → is_finite x ≡ true → sin_cos ieee x ≡ sin_cos_finite ieee x
      go nan e = unfold is_finite in absurd (false≢true e)
      go (inf s) e = unfold is_finite in absurd (false≢true e)
      go (fin s m d) e = unfold sin_cos in refl

-- document 01's pair from the angle y that is left
abbrev pair_of : Float → SinCos
pair_of y = let n = roundℤ (mul binary64 y FRAC_2_PI) in sin_cos_reduced ieee (modulo4 n) (reduced ieee y (whole_float ieee n))

from_left : (x : Float) → is_finite x ≡ true → sin_cos ieee x ≡ pair_of (rem binary64 x TAU)
unfolding sin_cos_finite
from_left x f = finite_pair x f

module _ (y : Float) (held : T (fits binary64 y)) (within : lt (abs y) TAU ≡ true) where
  pub pair_within : sin_cos ieee y ≡ pair_of y
  pair_within = from_left y (within_finite y within) ∙ ap pair_of (sym (within_own y held within))

  pub reduced_pair : (n : Float) (k : ℕ) → n ≡ whole_float ieee (roundℤ (mul binary64 y FRAC_2_PI)) → k ≡ modulo4 (roundℤ (mul binary64 y FRAC_2_PI))
      → sin_cos_reduced ieee k (reduced ieee y n) ≡ sin_cos ieee y
  reduced_pair n k e f = rw (e, f) (sym pair_within)

-- whole turns change no sine
pub by_turns : (x y : Float) → T (fits binary64 x) → is_finite x ≡ true → y ≡ rem binary64 x TAU → sin_cos ieee y ≡ sin_cos ieee x
by_turns x y held f e =
    let left = rem binary64 x TAU in
    ap (sin_cos ieee) e ∙ pair_within left (rem-fits binary64 x TAU held) (left_within x held f) ∙ sym (from_left x f)
