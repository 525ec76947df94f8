-- What to_cartesian takes for a corner of a triangle that is built: a polar angle with an origin's on top, and an arc tangent. Assumes nothing.
use mathlib.Core.Path.{◌≡◌}
use mathlib.Core.Bool.{false}
use lib.IntN.{pos}
use lib.Ieee.{Float, binary64, add, of_bits}
use Rattle.arithmetic.specs.Arith.{ieee}
use Rattle.elementary.specs.Sine.{beyond, outside}
use Rattle.elementary.proofs.Inside.{beyond_bounded}
use Rattle.coordinates.specs.Constants.{8·0}
use Rattle.coordinates.specs.CoordinateTransforms.{radians, to_polar}
use Rattle.coordinates.specs.Gnomonic.{gnomonic_inverse}
use Rattle.coordinates.specs.declared.coords.Face.{Face}
use Rattle.coordinates.specs.declared.spherical.Spherical.{Spherical}
use Rattle.coordinates.proofs.Sizes.{polar_gamma, gnomonic_phi, turned_on, inside_12, inside_24}

abbrev turned : Face → Float → Spherical
turned f a = gnomonic_inverse ieee (record { rho = (to_polar ieee f).rho; gamma = radians (add binary64 (to_polar ieee f).gamma.0 a) })

theta_inside : (f : Face) (a : Float) → beyond 8·0 a ≡ false → outside (turned f a).theta.0 ≡ false
unfolding gnomonic_inverse of_bits
theta_inside f a h = inside_24 (add binary64 (to_polar ieee f).gamma.0 a) (turned_on (polar_gamma f) (beyond_bounded a 1 (pos 3) h))

pub corner_inside : (f : Face) (a : Float) → beyond 8·0 a ≡ false → (outside (turned f a).theta.0 ≡ false) × (outside (turned f a).phi.0 ≡ false)
corner_inside f a h =
    let p = to_polar ieee f in
    let phi = gnomonic_phi (record { rho = p.rho; gamma = radians (add binary64 p.gamma.0 a) }) in
    (theta_inside f a h, inside_12 (turned f a).phi.0 phi)
