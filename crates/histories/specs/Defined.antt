-- Document 01, "Triangles and calls": "The triangle defined for a slot never depends on what a store holds". For a face slot it is
-- `face_triangle` of crate `tiling`; here it is for a sphere slot: "what the Rust builds, with the steps above, from the triangle defined
-- for face slot i (20+i if reflected), i being its index, from its origin, and from the frame that the last answered open wrote"; and
-- the origin is that open's table's (Paper 10).
-- Definitions only.
use Rattle.std.specs.Prelude.{ℕ, ◌*◌, ◌/◌, ◌%◌, List, leb, Float}
use Rattle.answer.specs.Given.{Given}
use Rattle.arithmetic.specs.Arith.{ieee}
use Rattle.coordinates.specs.declared.coords.SphericalTriangle.{SphericalTriangle}
use Rattle.origin.specs.Origins.{origin_at}
use Rattle.tiling.specs.FaceTriangles.{face_triangle}
use Rattle.stores.specs.Slots as slots
use Rattle.stores.specs.Slots.{source_slot}
use Rattle.stores.specs.Triangles.{sphere_built}

-- sphere slot k, which is 10·origin + index, plus 120 if reflected; refused with 8 where a vertex has no row in the frame
unfoldable pub sphere_defined : List Float → List Float → ℕ → Given SphericalTriangle
sphere_defined table frame k =
    let origin = k % 120 / 10 in
    let index = k % 10 in
    let reflected = leb 120 k in
    sphere_built ieee frame (origin_at table origin) (face_triangle ieee (source_slot index reflected))

-- the numbers of slot k in a store of the width w
abbrev pub slot_at : ℕ → List Float → ℕ → List Float
slot_at w store k = slots.run store (k * w) w
