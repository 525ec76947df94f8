-- `face_triangles::get_base_face_triangle` meets its contract. Assumes nothing.
use mathlib.Core.Path.{◌≡◌, ap, ◌∙◌}
use Prim.Native.Nat.{ℕ, ◌+◌, ◌/◌, ◌%◌}
use native.Mathlib.Omega.{arith}
use borrow.Author.Tests.{ne_eqb}
use Rattle.arithmetic.specs.Arith.{ieee}
use Rattle.tiling.specs.declared.tiling.QuintantVertices.{QuintantVertices}
use Rattle.tiling.specs.Tiling.{get_quintant_vertices}
use Rattle.tiling.specs.FaceTriangles.{half_of, get_base_face_triangle}
use Rattle.tiling.proofs.face_triangles.get_base_face_triangle.Goals as goal

-- div_ceil(2) without its sum, which could wrap
quintant : (i : ℕ) → (i / 2 + i % 2) % 5 ≡ (i + 1) / 2 % 5
quintant i = let e : i / 2 + i % 2 ≡ (i + 1) / 2 = omega arith in ap (λ n. n % 5) e

vertices : (i : ℕ) {v : QuintantVertices} → v ≡ get_quintant_vertices ieee ((i / 2 + i % 2) % 5) → v ≡ get_quintant_vertices ieee ((i + 1) / 2 % 5)
vertices i e = e ∙ ap (get_quintant_vertices ieee) (quintant i)

pub returns-then-index-eq0 : goal.returns-then-index-eq0
unfolding half_of get_base_face_triangle
returns-then-index-eq0 c = rw (c.if-index-eq0.true, ← (vertices c.args.index c.get_quintant_vertices-v.ensures), c.midpoint-edge_midpoint.ensures)

pub returns-else-index-eq0 : goal.returns-else-index-eq0
unfolding half_of get_base_face_triangle
returns-else-index-eq0 c =
    rw (ne_eqb _ _ c.if-index-eq0.false, ← (vertices c.args.index c.get_quintant_vertices-v.ensures), c.midpoint-edge_midpoint.ensures)
