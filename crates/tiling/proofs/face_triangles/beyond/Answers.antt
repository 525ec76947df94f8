-- `face_triangles::beyond` meets its contract. Assumes nothing.
use mathlib.Core.Path.{refl}
use Rattle.tiling.specs.FaceTriangles.{beyond}
use Rattle.tiling.proofs.face_triangles.beyond.Goals as goal

pub returns : goal.returns
unfolding beyond
returns c = refl
