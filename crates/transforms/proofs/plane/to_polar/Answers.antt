-- `plane::to_polar` meets its contract: the angle is that of y by x. Assumes nothing.
use mathlib.Core.Path.{◌≡◌}
use Rattle.arithmetic.specs.Arith.{ieee}
use Rattle.elementary.specs.Arctangent.{atan2}
use Rattle.coordinates.specs.CoordinateTransforms.{to_polar}
use Rattle.transforms.proofs.plane.to_polar.Goals as goal

pub returns : goal.returns
unfolding to_polar
returns c =
    let found = c.atan2_and_sqrt-found.ensures in
    let angle : c.atan2_and_sqrt-found.result.angle ≡ atan2 ieee c.args.face.0.y c.args.face.0.x = found.0 in
    rw (angle, found.1)
