-- projections/authalic.rs: geodetic latitude to authalic and back. Definitions only.
use Rattle.std.specs.Prelude.{List, get_or, Float}
use Rattle.std.specs.Float.{nan}
use Rattle.arithmetic.specs.Arith.{Arith}
use Rattle.elementary.specs.Sine.{sin_cos}
use Rattle.coordinates.specs.Constants.{2·0, GEODETIC_TO_AUTHALIC, AUTHALIC_TO_GEODETIC}
use Rattle.coordinates.specs.declared.base.Radians.{Radians}

-- The five steps of the recurrence for Karney's six-term series, over any numbers: the multiplier x and the coefficients c[0] .. c[5]. They
-- are the Rust's but for the second, which "reads x·u0 − c[5] + c[3] from left to right" (Paper 8); u0 is s1 here. Over whole numbers they
-- are the series' sum (`Series`).
module _ {X : Type 0} (◌⊕◌ ◌⊖◌ ◌⊗◌ : X → X → X) where
  infixl 60 ◌⊕◌ ◌⊖◌
  infixl 70 ◌⊗◌
  unfoldable pub recurrence : X → X → X → X → X → X → X → X
  recurrence x c0 c1 c2 c3 c4 c5 =
      let s1 = x ⊗ c5 ⊕ c4 in
      let s2 = x ⊗ s1 ⊖ c5 ⊕ c3 in
      let s3 = x ⊗ s2 ⊖ s1 ⊕ c2 in
      let s4 = x ⊗ s3 ⊖ s2 ⊕ c1 in
      x ⊗ s4 ⊖ s3 ⊕ c0

module _ (A : Arith) where
  open A use {◌⊕◌, ◌⊖◌, ◌⊗◌}

  infixl 60 ◌⊕◌ ◌⊖◌
  infixl 70 ◌⊗◌
  unfoldable pub apply_coefficients : Radians → List Float → Radians
  unfolding sin_cos recurrence
  apply_coefficients phi c =
      let p = sin_cos A phi.0 in
      let x = 2·0 ⊗ (p.cos ⊖ p.sin) ⊗ (p.cos ⊕ p.sin) in
      let u = recurrence ◌⊕◌ ◌⊖◌ ◌⊗◌ x (get_or c 0 nan) (get_or c 1 nan) (get_or c 2 nan) (get_or c 3 nan) (get_or c 4 nan) (get_or c 5 nan) in
      record { 0 = phi.0 ⊕ 2·0 ⊗ p.sin ⊗ p.cos ⊗ u }

  -- AuthalicProjection::forward
  unfoldable pub authalic_forward : Radians → Radians
  unfolding apply_coefficients GEODETIC_TO_AUTHALIC
  authalic_forward phi = apply_coefficients phi GEODETIC_TO_AUTHALIC

  -- AuthalicProjection::inverse
  unfoldable pub authalic_inverse : Radians → Radians
  unfolding apply_coefficients AUTHALIC_TO_GEODETIC
  authalic_inverse phi = apply_coefficients phi AUTHALIC_TO_GEODETIC
