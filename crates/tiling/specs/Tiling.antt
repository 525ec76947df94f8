-- core/tiling.rs: the quintants of a face. Definitions only.
use Rattle.std.specs.Prelude.{ℕ, List, [], ◌∷◌, map, Float}
use Rattle.std.proofs.Math.Bool.{false}
use Rattle.std.specs.Float.Ieee.{neg}
use Rattle.arithmetic.specs.Arith.{Arith}
use Rattle.elementary.specs.Sine.{sin_cos}
use Rattle.coordinates.specs.CoordinateTransforms.{face}
use Rattle.coordinates.specs.declared.coords.Face.{Face}
use Rattle.origin.specs.Constants.{TWO_PI_OVER_5}
use Rattle.tiling.specs.Pentagon.{x, y, vertex, shape, triangle}
use Rattle.tiling.specs.declared.tiling.QuintantVertices.{QuintantVertices}

-- core/pentagon.rs
pub record Mat2 : Type 0 where
  pub m00 : Float
  pub m01 : Float
  pub m10 : Float
  pub m11 : Float

module _ (A : Arith) where
  open A use {◌⊕◌, ◌⊗◌, whole}

  infixl 60 ◌⊕◌
  infixl 70 ◌⊗◌
  -- QUINTANT_ROTATIONS[quintant]
  unfoldable pub quintant_rotation : ℕ → Mat2
  unfolding sin_cos neg TWO_PI_OVER_5
  quintant_rotation quintant =
      let angle = sin_cos A (TWO_PI_OVER_5 ⊗ whole false quintant) in
      record { m00 = angle.cos; m01 = neg angle.sin; m10 = angle.sin; m11 = angle.cos }

  -- "each vertex becomes (m00·x + m01·y, m10·x + m11·y)"
  unfoldable pub transform : Mat2 → Face → Face
  transform m p = face (m.m00 ⊗ x p ⊕ m.m01 ⊗ y p) (m.m10 ⊗ x p ⊕ m.m11 ⊗ y p)

  -- the shape of the new vertices, wound as the Rust winds it
  unfoldable pub transform_pentagon : Mat2 → List Face → List Face
  unfolding transform shape
  transform_pentagon m vertices = shape A (map (transform m) vertices)

  -- "supplies centre and two corners"
  unfoldable pub get_quintant_vertices : ℕ → QuintantVertices
  unfolding triangle shape transform_pentagon quintant_rotation
  get_quintant_vertices quintant =
      let t = triangle A in
      let s = transform_pentagon (quintant_rotation quintant) (shape A (vertex t 0 ∷ vertex t 1 ∷ vertex t 2 ∷ [])) in
      record { center = vertex s 0; corner1 = vertex s 1; corner2 = vertex s 2 }
