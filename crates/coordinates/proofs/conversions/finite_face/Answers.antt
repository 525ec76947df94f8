-- `finite_face` meets its contract. Assumes nothing.
use Rattle.coordinates.specs.Conversions.{finite_face}
use Rattle.coordinates.proofs.conversions.finite_face.Goals as goal

pub returns : goal.returns
unfolding finite_face
returns c = c.finite.ensures
