-- `face_triangles::midpoint` meets its contract. Assumes nothing.
use mathlib.Core.Path.{refl}
use Rattle.tiling.specs.FaceTriangles.{midpoint}
use Rattle.tiling.proofs.face_triangles.midpoint.Goals as goal

pub returns : goal.returns
unfolding midpoint
returns c = refl
