-- `triangles::take_face` meets its contract. Assumes nothing.
use Rattle.stores.specs.Triangles.{face_taken}
use Rattle.stores.proofs.Runs.{gap}
use Rattle.stores.proofs.triangles.take_face.Goals as goal

pub returns-then-is_filled : goal.returns-then-is_filled
unfolding face_taken
returns-then-is_filled c = simp (c.read_face.ensures, ← c.is_filled.ensures, c.if-is_filled.true, gap)

pub returns-else-is_filled : goal.returns-else-is_filled
unfolding face_taken
returns-else-is_filled c = simp (c.face_triangle.ensures, ← c.is_filled.ensures, c.if-is_filled.false)
