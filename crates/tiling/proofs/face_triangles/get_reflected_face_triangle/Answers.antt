-- `face_triangles::get_reflected_face_triangle` meets its contract. Assumes nothing.
use borrow.Author.Tests.{ne_eqb}
use Rattle.tiling.specs.FaceTriangles.{reflected_of, get_reflected_face_triangle}
use Rattle.tiling.proofs.face_triangles.get_reflected_face_triangle.Goals as goal

pub returns-then-index-eq0 : goal.returns-then-index-eq0
unfolding reflected_of get_reflected_face_triangle
returns-then-index-eq0 c =
    rw (c.if-index-eq0.true, c.beyond.ensures, c.scale_of-scale.ensures, c.get_base_face_triangle-base.ensures)

pub returns-else-index-eq0 : goal.returns-else-index-eq0
unfolding reflected_of get_reflected_face_triangle
returns-else-index-eq0 c =
    rw (ne_eqb _ _ c.if-index-eq0.false, c.beyond-else-index-eq0.ensures, c.scale_of-scale.ensures, c.get_base_face_triangle-base.ensures)
