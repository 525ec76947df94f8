-- Document 01, "Elementary steps": Core, atan and atan2, line by line. Definitions only.
use Rattle.std.specs.Prelude.{true, false, ◌&&◌}
use Rattle.std.specs.Float.Ieee.{Float, nan, le, eq}
use Rattle.std.specs.Float.{inf, fin}
use Rattle.answer.specs.Number.{is_finite}
use Rattle.arithmetic.specs.Arith.{Arith}
use Rattle.arithmetic.specs.Numbers.{0·0, 1·0, 4·0}
use Rattle.elementary.specs.Constants.{PI, FRAC_PI_2, core_first, core_rest}
use Rattle.elementary.specs.Signs.{abs, negative, with_sign}
use Rattle.elementary.specs.Sine.{series}

module _ (A : Arith) where
  open A use {◌⊕◌, ◌⊖◌, ◌⊗◌, ◌⊘◌, root}

  infixl 60 ◌⊕◌ ◌⊖◌
  infixl 70 ◌⊗◌ ◌⊘◌
  -- "t = t/(1 + sqrt(1 + t·t))"
  unfoldable pub halved : Float → Float
  halved t = t ⊘ (1·0 ⊕ root (1·0 ⊕ t ⊗ t))

  -- "Core(t): twice t = ..; z = t·t; p = 1/25, then p = 1/k − z·p for k = 23, 21 .. 1; 4·(t·p)", by these steps for every t
  unfoldable pub core : Float → Float
  unfolding halved series core_first core_rest
  core t₀ =
      let t = halved (halved t₀) in
      let z = t ⊗ t in
      4·0 ⊗ (t ⊗ series A z core_first core_rest)

  -- "Core(a) if a ≤ 1, else FRAC_PI_2 − Core(1/a)"
  unfoldable pub atan_size : Float → Float
  unfolding core le FRAC_PI_2
  atan_size a = elim (le a 1·0) [ true ↦ core a | false ↦ FRAC_PI_2 ⊖ core (1·0 ⊘ a) ]

  -- "with a = abs x, ..; sign of x; NaN gives NaN"
  unfoldable pub atan : Float → Float
  unfolding atan_size with_sign
  atan nan = nan
  atan (inf s) = with_sign s (atan_size (inf false))
  atan (fin s m e) = with_sign s (atan_size (fin false m e))

  -- what base's Core is of: the smaller of the two by the larger
  unfoldable pub tangent : Float → Float → Float
  unfolding le
  tangent a b = elim (le a b) [ true ↦ a ⊘ b | false ↦ b ⊘ a ]

  -- "Base is +0 if both are zero, Core(abs y/abs x) if abs y ≤ abs x, else FRAC_PI_2 − Core(abs x/abs y)", for a = abs y and b = abs x
  unfoldable pub atan2_base : Float → Float → Float
  unfolding core le eq FRAC_PI_2
  atan2_base a b =
      elim (eq a 0·0 && eq b 0·0) [
        | true ↦ 0·0
        | false ↦ elim (le a b) [ true ↦ core (a ⊘ b) | false ↦ FRAC_PI_2 ⊖ core (b ⊘ a) ]
      ]

  -- "NaN unless both finite. .. If x's sign bit is set, π − base. Then y's sign."
  unfoldable pub atan2 : Float → Float → Float
  unfolding atan2_base is_finite abs negative with_sign PI
  atan2 y x =
      elim (is_finite y && is_finite x) [
        | true ↦
            let base = atan2_base (abs y) (abs x) in
            let turned : Float = elim (negative x) [ true ↦ PI ⊖ base | false ↦ base ] in
            with_sign (negative y) turned
        | false ↦ nan
      ]
