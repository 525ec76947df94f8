-- geometry/pentagon.rs: a shape and its winding. core/pentagon.rs: `compute`, as far as the triangle u, v, w depends on it; the
-- vertices a, b, d, e and the pentagon are the cells'. Definitions only.
use Rattle.std.specs.Prelude.{ℕ, Bool, get_or, Float}
use Rattle.std.proofs.Math.Bool.{true, false}
use mathlib.Core.List.{List, [], ◌∷◌, reverse}
use Rattle.std.specs.Float.{binary64}
use Rattle.std.specs.Float.Ieee.{le, of_bits}
use Rattle.arithmetic.specs.Arith.{Arith}
use Rattle.arithmetic.specs.Numbers.{0·0}
use Rattle.elementary.specs.Sine.{sin_cos, cos}
use Rattle.elementary.specs.Arctangent.{atan2}
use Rattle.coordinates.specs.Constants.{2·0}
use Rattle.coordinates.specs.CoordinateTransforms.{face}
use Rattle.coordinates.specs.declared.coords.Face.{Face}
use Rattle.origin.specs.Constants.{PI_OVER_5, DISTANCE_TO_EDGE}

abbrev pub x : Face → Float
x p = p.0.x

abbrev pub y : Face → Float
y p = p.0.y

abbrev pub centre : Face
centre = face 0·0 0·0

-- get_vertices()[i], for an i below 5: (0.0, 0.0) where the shape has fewer vertices
abbrev pub vertex : List Face → ℕ → Face
vertex shape i = get_or shape i centre

-- compute's c, before it is scaled and turned: (0.7885966681787006, 1.6149108024237764)
unfoldable pub C : Face
unfolding of_bits
C = face (of_bits binary64 0x3fe9_3c2f_1471_fc95) (of_bits binary64 0x3ff9_d6ac_b5a5_e034)

module _ (A : Arith) where
  open A use {◌⊕◌, ◌⊖◌, ◌⊗◌, ◌⊘◌, root}

  infixl 60 ◌⊕◌ ◌⊖◌
  infixl 70 ◌⊗◌ ◌⊘◌
  -- ---- geometry/pentagon.rs

  -- get_area from the vertex p on, where the sum so far is known and the first vertex follows the last
  unfoldable pub area_from : Float → Face → Face → List Face → Float
  area_from sum first p [] = sum ⊕ (x first ⊖ x p) ⊗ (y first ⊕ y p)
  area_from sum first p (q ∷ qs) = area_from (sum ⊕ (x q ⊖ x p) ⊗ (y q ⊕ y p)) first q qs

  unfoldable pub get_area : List Face → Float
  unfolding area_from
  get_area [] = 0·0
  get_area (p ∷ ps) = area_from 0·0 p p ps

  unfoldable pub is_winding_correct : List Face → Bool
  unfolding get_area le
  is_winding_correct vertices = le 0·0 (get_area vertices)

  -- PentagonShape::new on five vertices, new_triangle on three
  unfoldable pub shape : List Face → List Face
  unfolding is_winding_correct
  shape vertices = elim (is_winding_correct vertices) [ true ↦ vertices | false ↦ reverse vertices ]

  -- ---- core/pentagon.rs

  -- 2.0 * DISTANCE_TO_EDGE / edge_midpoint_d
  unfoldable pub scale : Float
  unfolding C cos PI_OVER_5 DISTANCE_TO_EDGE
  scale =
      let cLength = root (x C ⊗ x C ⊕ y C ⊗ y C) in
      let edgeMidpointD = 2·0 ⊗ cLength ⊗ cos A PI_OVER_5 in
      2·0 ⊗ DISTANCE_TO_EDGE ⊘ edgeMidpointD

  -- c, scaled and turned
  unfoldable pub vertex_c : Face
  unfolding C scale atan2 sin_cos PI_OVER_5
  vertex_c =
      let scaledX = x C ⊗ scale in
      let scaledY = y C ⊗ scale in
      let angle = sin_cos A (PI_OVER_5 ⊖ atan2 A (y C) (x C)) in
      face (scaledX ⊗ angle.cos ⊖ scaledY ⊗ angle.sin) (scaledX ⊗ angle.sin ⊕ scaledY ⊗ angle.cos)

  -- (l * angle.cos(), l * angle.sin())
  unfoldable pub at_angle : Float → Float → Face
  unfolding sin_cos
  at_angle l angle = let t = sin_cos A angle in face (l ⊗ t.cos) (l ⊗ t.sin)

  -- u, v, w and (0.0, 0.0) twice
  unfoldable pub triangle : List Face
  unfolding vertex_c atan2 cos at_angle shape PI_OVER_5 DISTANCE_TO_EDGE
  triangle =
      let c = vertex_c in
      let bisectorAngle = atan2 A (y c) (x c) ⊖ PI_OVER_5 in
      let l = DISTANCE_TO_EDGE ⊘ cos A PI_OVER_5 in
      let v = at_angle l (bisectorAngle ⊕ PI_OVER_5) in
      let w = at_angle l (bisectorAngle ⊖ PI_OVER_5) in
      shape (centre ∷ v ∷ w ∷ centre ∷ centre ∷ [])
