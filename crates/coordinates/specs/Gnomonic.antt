-- projections/gnomonic.rs. Definitions only.
use Rattle.arithmetic.specs.Arith.{Arith}
use Rattle.elementary.specs.Sine.{tan}
use Rattle.elementary.specs.Arctangent.{atan}
use Rattle.coordinates.specs.declared.polar.Polar.{Polar}
use Rattle.coordinates.specs.declared.spherical.Spherical.{Spherical}

module _ (A : Arith) where
  -- GnomonicProjection::forward
  unfoldable pub gnomonic_forward : Spherical → Polar
  unfolding tan
  gnomonic_forward s = record { rho = tan A s.phi.0; gamma = s.theta }

  -- GnomonicProjection::inverse
  unfoldable pub gnomonic_inverse : Polar → Spherical
  unfolding atan
  gnomonic_inverse p = record { theta = p.gamma; phi = record { 0 = atan A p.rho } }
