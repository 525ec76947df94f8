-- `plane::to_face` meets its contract. Assumes nothing.
use mathlib.Core.Path.{refl}
use Rattle.coordinates.specs.CoordinateTransforms.{to_face}
use Rattle.transforms.proofs.plane.to_face.Goals as goal

pub returns : goal.returns
unfolding to_face
returns c = rw c.sin_cos_inside-gamma.ensures refl
