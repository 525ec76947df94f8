-- `coordinate_transforms::to_spherical` meets its contract. Assumes nothing.
use Rattle.std.proofs.Common.{ap, ◌∙◌}
use lib.Ieee.{Float}
use Rattle.arithmetic.specs.Arith.{ieee}
use Rattle.elementary.specs.Arctangent.{atan2}
use Rattle.coordinates.specs.CoordinateTransforms.{radians, to_spherical}
use Rattle.transforms.proofs.coordinate_transforms.to_spherical.Goals as goal

pub returns : goal.returns
unfolding to_spherical
returns c =
    let angles = c.atan2_both-theta.ensures in
    let phi = angles.1 ∙ ap (λ (r : Float). atan2 ieee r c.args.cart.0.z) c.sqrt-rxy.ensures in
    λ i. record { theta = radians (angles.0 i); phi = radians (phi i) }
