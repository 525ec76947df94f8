-- Paper 9, on the definitions of the frame and of the sphere triangles: what is computed. Definitions only.
use Rattle.std.specs.Prelude.{◌≡◌, Bool, ℕ, ◌<◌}
use Rattle.answer.specs.Given.{Given, answered}
use Rattle.arithmetic.specs.Arith.{ieee}
use Rattle.origin.specs.Origins.{ORIGINS, origin_at}
use Rattle.tiling.specs.FaceTriangles.{face_triangle}
use Rattle.crs.specs.Frame.{frame_rows}
use Rattle.stores.specs.Slots.{source_slot}
use Rattle.stores.specs.Triangles.{sphere_built}
use Rattle.frame_data.specs.Rows.{ROWS}

-- there is an answer
abbrev pub Answers : {X : Type 0} → Given X → Type 0
Answers {X} g = (x : X) × (g ≡ answered x)

-- the frame that open writes is the 62 rows, bit for bit
abbrev pub FrameIs : Type 0
FrameIs = frame_rows ieee ORIGINS ≡ ROWS

-- "All 240 sphere triangles": for each origin, index and reflection one is built, from that frame and the face triangle
-- of its slot; no lookup gives 8
abbrev pub AllBuilt : Type 0
AllBuilt =
    (o i : ℕ) (r : Bool) → o < 12 → i < 10 →
    Answers (sphere_built ieee (frame_rows ieee ORIGINS) (origin_at ORIGINS o) (face_triangle ieee (source_slot i r)))
