-- Document 01, "Elementary steps": sine, cosine and tangent, line by line, and before them Paper 7's "outside". Definitions only.
use Rattle.std.specs.Prelude.{ℕ, zero, suc, ◌-◌, ◌%◌, Bool, true, false, List, [], ◌∷◌, ℤ, pos, negsuc, Float}
use Rattle.std.specs.Float.Ieee.{nan, neg, lt}
use Rattle.std.specs.Float.{inf, fin}
use Rattle.arithmetic.specs.Arith.{Arith}
use Rattle.answer.specs.Given.{Given, answered, refuse_if}
use Rattle.elementary.specs.declared.sine.SinCos.{SinCos}
use Rattle.elementary.specs.Constants.{TAU, FRAC_2_PI, FRAC_PI_2, PI_2_REST, sine_first, sine_rest, cosine_first, cosine_rest}
use Rattle.elementary.specs.Whole.{roundℤ}

-- Finite, and beyond ±limit: ±limit itself is not, nor is an infinity or a NaN.
unfoldable pub beyond : Float → Float → Bool
unfolding lt
beyond limit nan = false
beyond limit (inf s) = false
beyond limit (fin s m e) = lt limit (fin false m e)

-- Paper 7: "finite arguments beyond ±64".
abbrev pub outside : Float → Bool
outside x = beyond (fin false 1 (pos 6)) x

-- Paper 7: "Sine and cosine shall answer "outside" for finite arguments beyond ±64." In the calls that can meet it, it is refusal 19.
unfoldable pub unless_outside : {X : Type 0} → Float → X → Given X
unfolding beyond
unless_outside x value = refuse_if (outside x) 19 (answered value)

-- "n mod 4 (never negative)"
unfoldable pub modulo4 : ℤ → ℕ
modulo4 (pos k) = k % 4
modulo4 (negsuc k) = 3 - k % 4

-- "For n mod 4 = 0, 1, 2, 3 the pair is (S, C), (C, −S), (−S, −C), (−C, S)."
unfoldable pub quarter_turns : ℕ → Float → Float → SinCos
unfolding neg
quarter_turns zero s c = record { sin = s; cos = c }
quarter_turns (suc zero) s c = record { sin = c; cos = neg s }
quarter_turns (suc (suc zero)) s c = record { sin = neg s; cos = neg c }
quarter_turns (suc (suc (suc k))) s c = record { sin = neg c; cos = s }

module _ (A : Arith) where
  open A use {◌⊖◌, ◌⊗◌, ◌⊘◌, remainder, whole}

  infixl 60 ◌⊖◌
  infixl 70 ◌⊗◌ ◌⊘◌
  -- p, "then p = c(k) − z·p" for each coefficient in turn
  unfoldable pub series : Float → Float → List Float → Float
  series z p [] = p
  series z p (c ∷ cs) = series z (c ⊖ z ⊗ p) cs

  -- the whole number n as an operand
  unfoldable pub whole_float : ℤ → Float
  whole_float (pos k) = whole false k
  whole_float (negsuc k) = whole true (suc k)

  -- "r = (y − n·FRAC_PI_2) − n·6.123233995736766e-17"
  unfoldable pub reduced : Float → Float → Float
  unfolding FRAC_PI_2 PI_2_REST
  reduced y n = (y ⊖ n ⊗ FRAC_PI_2) ⊖ n ⊗ PI_2_REST

  -- "S = r·p", "C = p", and the pair
  unfoldable pub sin_cos_reduced : ℕ → Float → SinCos
  unfolding series quarter_turns sine_first sine_rest cosine_first cosine_rest
  sin_cos_reduced k r =
      let z = r ⊗ r in
      let s = r ⊗ series z sine_first sine_rest in
      let c = series z cosine_first cosine_rest in
      quarter_turns k s c

  unfoldable pub sin_cos_finite : Float → SinCos
  unfolding TAU FRAC_2_PI roundℤ whole_float modulo4 reduced sin_cos_reduced
  sin_cos_finite x =
      let y = remainder x TAU in
      let n = roundℤ (y ⊗ FRAC_2_PI) in
      sin_cos_reduced (modulo4 n) (reduced y (whole_float n))

  -- "Sine and cosine of finite x: .. Otherwise NaN."
  unfoldable pub sin_cos : Float → SinCos
  unfolding sin_cos_finite
  sin_cos nan = record { sin = nan; cos = nan }
  sin_cos (inf s) = record { sin = nan; cos = nan }
  sin_cos (fin s m e) = sin_cos_finite (fin s m e)

  unfoldable pub sin : Float → Float
  unfolding sin_cos
  sin x = (sin_cos x).sin

  unfoldable pub cos : Float → Float
  unfolding sin_cos
  cos x = (sin_cos x).cos

  -- "Tangent is sine/cosine."
  unfoldable pub tan : Float → Float
  unfolding sin_cos
  tan x = let p = sin_cos x in p.sin ⊘ p.cos

  -- ---- what sine, cosine, both together and tangent answer: 01's value, or "outside"

  unfoldable pub sin_cos_given : Float → Given SinCos
  sin_cos_given x = unless_outside x (sin_cos x)

  unfoldable pub sin_given : Float → Given Float
  sin_given x = unless_outside x (sin x)

  unfoldable pub cos_given : Float → Given Float
  cos_given x = unless_outside x (cos x)

  unfoldable pub tan_given : Float → Given Float
  tan_given x = unless_outside x (tan x)
