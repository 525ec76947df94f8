-- `face_triangles::scale_of` meets its contract: the constant is the computed scale. Assumes nothing.
use Rattle.tiling.specs.FaceTriangles.{scale_of}
use Rattle.tiling.proofs.Figure.{squashed_is}
use Rattle.tiling.proofs.face_triangles.scale_of.Goals as goal

pub returns-then-squashed : goal.returns-then-squashed
unfolding scale_of
returns-then-squashed c = rw c.if-squashed.true squashed_is

pub returns-else-squashed : goal.returns-else-squashed
unfolding scale_of
returns-else-squashed c = rw c.if-squashed.false
