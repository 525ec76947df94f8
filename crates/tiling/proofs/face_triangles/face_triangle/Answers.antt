-- `face_triangles::face_triangle` meets its contract. Assumes nothing.
use borrow.Author.Tests.{lt-ltb, le-ltb}
use Rattle.tiling.specs.FaceTriangles.{face_triangle}
use Rattle.tiling.proofs.face_triangles.face_triangle.Goals as goal

pub returns-then-slot-lt10 : goal.returns-then-slot-lt10
unfolding face_triangle
returns-then-slot-lt10 c = rw (lt-ltb _ _ c.if-slot-lt10.true, face_triangle) c.get_base_face_triangle.ensures

pub returns-then-slot-lt20 : goal.returns-then-slot-lt20
unfolding face_triangle
returns-then-slot-lt20 c = rw (le-ltb _ _ c.if-slot-lt10.false, face_triangle) (rw (lt-ltb _ _ c.if-slot-lt20.true) c.get_reflected_face_triangle.ensures)

pub returns-else-slot-lt20 : goal.returns-else-slot-lt20
unfolding face_triangle
returns-else-slot-lt20 c = rw (le-ltb _ _ c.if-slot-lt10.false, face_triangle)
    (rw (le-ltb _ _ c.if-slot-lt20.false) c.get_reflected_face_triangle-else-slot-lt20.ensures)
