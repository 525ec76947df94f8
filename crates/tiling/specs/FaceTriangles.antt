-- projections/dodecahedron.rs: the face triangles, and document 01's thirty face slots. Definitions only.
use Rattle.std.specs.Prelude.{ℕ, ◌+◌, ◌/◌, ◌%◌, Bool, true, false, eqb, ltb, Float}
use Rattle.std.specs.Float.Ieee.{neg}
use Rattle.arithmetic.specs.Arith.{Arith}
use Rattle.arithmetic.specs.Numbers.{1·0}
use Rattle.elementary.specs.Sine.{cos}
use Rattle.coordinates.specs.Constants.{2·0}
use Rattle.coordinates.specs.CoordinateTransforms.{face}
use Rattle.coordinates.specs.declared.coords.Face.{Face}
use Rattle.coordinates.specs.declared.coords.FaceTriangle.{FaceTriangle}
use Rattle.origin.specs.Constants.{INTERHEDRAL_ANGLE}
use Rattle.tiling.specs.Pentagon.{x, y}
use Rattle.tiling.specs.Tiling.{get_quintant_vertices}
use Rattle.tiling.specs.declared.tiling.QuintantVertices.{QuintantVertices}

abbrev even : ℕ → Bool
even i = eqb (i % 2) 0

module _ (A : Arith) where
  open A use {◌⊕◌, ◌⊗◌, ◌⊘◌}

  infixl 60 ◌⊕◌
  infixl 70 ◌⊗◌ ◌⊘◌
  -- ---- get_base_face_triangle

  -- v_edge_midpoint
  unfoldable pub midpoint : Face → Face → Face
  midpoint p q = face ((x p ⊕ x q) ⊘ 2·0) ((y p ⊕ y q) ⊘ 2·0)

  -- centre, midpoint and first corner, or centre, second corner and midpoint
  unfoldable pub half_of : Bool → QuintantVertices → FaceTriangle
  half_of true v = record { a = v.center; b = midpoint v.corner1 v.corner2; c = v.corner1 }
  half_of false v = record { a = v.center; b = v.corner2; c = midpoint v.corner1 v.corner2 }

  -- face_triangle_index.div_ceil(2) % 5 is the quintant
  unfoldable pub get_base_face_triangle : ℕ → FaceTriangle
  get_base_face_triangle i = half_of (even i) (get_quintant_vertices A ((i + 1) / 2 % 5))

  -- ---- get_reflected_face_triangle

  unfoldable pub squashed_scale : Float
  unfolding cos INTERHEDRAL_ANGLE
  squashed_scale = 1·0 ⊕ 1·0 ⊘ cos A INTERHEDRAL_ANGLE

  unfoldable pub scale_of : Bool → Float
  scale_of true = squashed_scale
  scale_of false = 2·0

  -- the centre a beyond the edge whose midpoint is m
  unfoldable pub beyond : Face → Face → Float → Face
  beyond a m scale = face (neg (x a) ⊕ x m ⊗ scale) (neg (y a) ⊕ y m ⊗ scale)

  -- midpoint and corner change places
  unfoldable pub reflected_of : Bool → Float → FaceTriangle → FaceTriangle
  reflected_of true scale t = record { a = beyond t.a t.b scale; b = t.c; c = t.b }
  reflected_of false scale t = record { a = beyond t.a t.c scale; b = t.c; c = t.b }

  unfoldable pub get_reflected_face_triangle : ℕ → Bool → FaceTriangle
  get_reflected_face_triangle i squashed = reflected_of (even i) (scale_of squashed) (get_base_face_triangle i)

  -- ---- "Face slot i (0..9) is the base triangle, 10+i reflected with scale 2, 20+i reflected and squashed."

  -- by the slot, and as the last ten beyond slot 29, where there is none
  unfoldable pub face_triangle : ℕ → FaceTriangle
  face_triangle slot =
      elim (ltb slot 10) [
        | true ↦ get_base_face_triangle slot
        | false ↦ elim (ltb slot 20) [ true ↦ get_reflected_face_triangle (slot % 10) false | false ↦ get_reflected_face_triangle (slot % 10) true ]
      ]
