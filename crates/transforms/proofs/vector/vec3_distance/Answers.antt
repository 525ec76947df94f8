-- `vector::vec3_distance` meets its contract. Assumes nothing.
use Rattle.std.proofs.Common.{ap, ◌∙◌}
use Rattle.arithmetic.specs.Arith.{ieee}
use Rattle.coordinates.specs.Vector.{length, vec3_distance}
use Rattle.transforms.proofs.vector.vec3_distance.Goals as goal

pub returns : goal.returns
unfolding vec3_distance
returns c = c.length.ensures ∙ ap (length ieee) c.subtract.ensures
