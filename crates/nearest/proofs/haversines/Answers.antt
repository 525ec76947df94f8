-- `haversines` meets its contract: each of the twelve is put together from shared parts. That none of the halves is outside is answered for
-- each: a `tactic` line on the function opens no definition of the logic's, and an axis's angle is an `of_bits`. Assumes nothing.
use mathlib.Core.Path.{refl, sym, ap, ◌∙◌}
use mathlib.Core.List.{List, [], ◌∷◌}
use Prim.Native.Nat.{ℕ}
use lib.Ieee.{Float, of_bits}
use Rattle.arithmetic.specs.Arith.{ieee}
use Rattle.elementary.specs.Sine.{beyond}
use Rattle.coordinates.proofs.Sizes.{half_inside}
use Rattle.coordinates.specs.declared.spherical.Spherical.{Spherical}
use Rattle.origin.specs.Origins.{origin_at}
use Rattle.nearest.specs.Nearest.{haversines}
use Rattle.origin.proofs.BuiltIn.{BITS, built_in}
use Rattle.nearest.proofs.AxisSines.{axis_sines}
use Rattle.nearest.proofs.Shared.{joined}
use Rattle.nearest.proofs.haversines.Goals as goal

axis : ℕ → Spherical
axis k = (origin_at BITS k).axis

pub returns : goal.returns
unfolding haversines axis origin_at BITS of_bits
returns c =
    let p = c.args.point in
    let z = c.sin_inside-s.ensures in
    let up = c.half_sine_squared-upper.ensures in
    let low = c.half_sine_squared-lower.ensures in
    let none = c.half_sine_squared-t0.ensures in
    (λ i.
    joined p (axis 0) c.half_sine_squared-north.ensures none z axis_sines.north i ∷
    joined p (axis 1) up none z axis_sines.upper i ∷
    joined p (axis 2) low c.half_sine_squared-t1.ensures z axis_sines.lower i ∷
    joined p (axis 3) low c.half_sine_squared-t3.ensures z axis_sines.lower i ∷
    joined p (axis 4) up c.half_sine_squared-t2.ensures z axis_sines.upper i ∷
    joined p (axis 5) up c.half_sine_squared-t4.ensures z axis_sines.upper i ∷
    joined p (axis 6) up c.half_sine_squared-t6.ensures z axis_sines.upper i ∷
    joined p (axis 7) low c.half_sine_squared-t7.ensures z axis_sines.lower i ∷
    joined p (axis 8) low c.half_sine_squared-t5.ensures z axis_sines.lower i ∷
    joined p (axis 9) c.half_sine_squared-south.ensures none z axis_sines.south i ∷
    joined p (axis 10) low c.half_sine_squared-t9.ensures z axis_sines.lower i ∷
    joined p (axis 11) up c.half_sine_squared-t8.ensures z axis_sines.upper i ∷
    [])
    ∙ ap (λ (table : List Float). haversines ieee table p) (sym built_in)

pub half_sine_squared-north-requires : goal.half_sine_squared-north-requires
unfolding beyond of_bits
half_sine_squared-north-requires c = half_inside _ _ c.requires.1 refl

pub half_sine_squared-upper-requires : goal.half_sine_squared-upper-requires
unfolding beyond of_bits
half_sine_squared-upper-requires c = half_inside _ _ c.requires.1 refl

pub half_sine_squared-lower-requires : goal.half_sine_squared-lower-requires
unfolding beyond of_bits
half_sine_squared-lower-requires c = half_inside _ _ c.requires.1 refl

pub half_sine_squared-south-requires : goal.half_sine_squared-south-requires
unfolding beyond of_bits
half_sine_squared-south-requires c = half_inside _ _ c.requires.1 refl

pub half_sine_squared-t0-requires : goal.half_sine_squared-t0-requires
unfolding beyond of_bits
half_sine_squared-t0-requires c = half_inside _ _ c.requires.0 refl

pub half_sine_squared-t1-requires : goal.half_sine_squared-t1-requires
unfolding beyond of_bits
half_sine_squared-t1-requires c = half_inside _ _ c.requires.0 refl

pub half_sine_squared-t2-requires : goal.half_sine_squared-t2-requires
unfolding beyond of_bits
half_sine_squared-t2-requires c = half_inside _ _ c.requires.0 refl

pub half_sine_squared-t3-requires : goal.half_sine_squared-t3-requires
unfolding beyond of_bits
half_sine_squared-t3-requires c = half_inside _ _ c.requires.0 refl

pub half_sine_squared-t4-requires : goal.half_sine_squared-t4-requires
unfolding beyond of_bits
half_sine_squared-t4-requires c = half_inside _ _ c.requires.0 refl

pub half_sine_squared-t5-requires : goal.half_sine_squared-t5-requires
unfolding beyond of_bits
half_sine_squared-t5-requires c = half_inside _ _ c.requires.0 refl

pub half_sine_squared-t6-requires : goal.half_sine_squared-t6-requires
unfolding beyond of_bits
half_sine_squared-t6-requires c = half_inside _ _ c.requires.0 refl

pub half_sine_squared-t7-requires : goal.half_sine_squared-t7-requires
unfolding beyond of_bits
half_sine_squared-t7-requires c = half_inside _ _ c.requires.0 refl

pub half_sine_squared-t8-requires : goal.half_sine_squared-t8-requires
unfolding beyond of_bits
half_sine_squared-t8-requires c = half_inside _ _ c.requires.0 refl

pub half_sine_squared-t9-requires : goal.half_sine_squared-t9-requires
unfolding beyond of_bits
half_sine_squared-t9-requires c = half_inside _ _ c.requires.0 refl
