-- normalize_gamma's angle is at most 1, for every gamma: a number less its nearest whole number is at most a half. And the angles of the face figure,
-- which only its definition takes. Assumes nothing.
use mathlib.Core.Path.{◌≡◌, refl}
use Prim.Native.Nat.{ℕ, ◌≤◌, ◌<◌}
use native.Mathlib.Nat.{mul-le-mul_right}
use native.Mathlib.Omega.{arith}
use mathlib.Core.Bool.{false}
use lib.Dec.{lit≤}
use lib.Ieee.{Float, binary64, add, sub, mul, div, le}
use lib.Ieee.{round as rounded}
use lib.Ieee.Fits.{div-fits}
use Rattle.arithmetic.specs.Arith.{ieee}
use Rattle.arithmetic.specs.Numbers.{1·0}
use Rattle.arithmetic.proofs.Bounds.{own, le_within, round_within, mul_within}
use Rattle.arithmetic.proofs.Bounded.{Bounded, bounded, broader, add_bounded, sub_bounded, mul_bounded}
use Rattle.elementary.specs.Sine.{beyond, outside}
use Rattle.elementary.specs.Arctangent.{atan2}
use Rattle.elementary.proofs.Sizes.{atan2_small}
use Rattle.elementary.proofs.Inside.{1/2, rounding_off, inside_by}
use Rattle.coordinates.specs.declared.base.Radians.{Radians}
use Rattle.origin.specs.Constants.{PI_OVER_5, TWO_PI_OVER_5, INTERHEDRAL_ANGLE}
use Rattle.tiling.specs.Index.{normalize_gamma}

scaled : {x : Float} → Bounded x 1/2 → Bounded (mul binary64 x TWO_PI_OVER_5) 1·0
unfolding TWO_PI_OVER_5 mul le
scaled h = broader (mul_bounded binary64 h (bounded (own TWO_PI_OVER_5 tt tt)) tt) (le_within (mul binary64 1/2 TWO_PI_OVER_5) 1·0 tt tt tt tt)

pub normalized_small : (gamma : Radians) → Bounded (normalize_gamma ieee gamma).0 1·0
unfolding normalize_gamma
normalized_small gamma = scaled (rounding_off (div binary64 gamma.0 TWO_PI_OVER_5) (div-fits binary64 gamma.0 TWO_PI_OVER_5))

pub normalized_inside : (gamma : Radians) → outside (normalize_gamma ieee gamma).0 ≡ false
unfolding le
normalized_inside gamma = inside_by (normalize_gamma ieee gamma).0 (normalized_small gamma) tt tt tt

-- ---- the face figure

module _ (y x : Float) where
  pub figure_turn : outside (sub binary64 PI_OVER_5 (atan2 ieee y x)) ≡ false
  unfolding PI_OVER_5 add le
  figure_turn = inside_by (sub binary64 PI_OVER_5 (atan2 ieee y x)) (sub_bounded binary64 (bounded (own PI_OVER_5 tt tt)) (atan2_small y x) tt) tt tt tt

  pub figure_up : outside (add binary64 (sub binary64 (atan2 ieee y x) PI_OVER_5) PI_OVER_5) ≡ false
  unfolding PI_OVER_5 add le
  figure_up =
      let fifth = bounded (own PI_OVER_5 tt tt) in
      inside_by _ (add_bounded binary64 (sub_bounded binary64 (atan2_small y x) fifth tt) fifth tt) tt tt tt

  pub figure_down : outside (sub binary64 (sub binary64 (atan2 ieee y x) PI_OVER_5) PI_OVER_5) ≡ false
  unfolding PI_OVER_5 add le
  figure_down =
      let fifth = bounded (own PI_OVER_5 tt tt) in
      inside_by _ (sub_bounded binary64 (sub_bounded binary64 (atan2_small y x) fifth tt) fifth tt) tt tt tt

pub figure_constants : (outside PI_OVER_5 ≡ false) × (outside INTERHEDRAL_ANGLE ≡ false)
unfolding PI_OVER_5 INTERHEDRAL_ANGLE beyond
figure_constants = (refl, refl)

pub quintant_inside : (q : ℕ) → q < 5 → outside (mul binary64 TWO_PI_OVER_5 (rounded binary64 false q 1)) ≡ false
unfolding TWO_PI_OVER_5 rounded mul le
quintant_inside q h =
    let l : q ≤ 4 = omega arith in
    let q-most = round_within binary64 false q 1 4 1 (lit≤ tt) (lit≤ tt) (mul-le-mul_right 1 l) tt in
    inside_by _ (bounded (mul_within binary64 (own TWO_PI_OVER_5 tt tt) q-most tt)) tt tt tt
