-- utils/vector.rs: what the projection uses of it; and the vector helpers of projections/equal_area.rs and projections/crs.rs, once. Definitions only.
use Rattle.std.specs.Prelude.{true, false, Float}
use Rattle.std.specs.Float.Ieee.{eq}
use Rattle.arithmetic.specs.Arith.{Arith}
use Rattle.arithmetic.specs.Numbers.{0·0}
use Rattle.coordinates.specs.declared.coords.Cartesian.{Cartesian}

abbrev pub x : Cartesian → Float
x p = p.0.x

abbrev pub y : Cartesian → Float
y p = p.0.y

abbrev pub z : Cartesian → Float
z p = p.0.z

abbrev pub cartesian : Float → Float → Float → Cartesian
cartesian a b c = record { 0 = record { x = a; y = b; z = c } }

module _ (A : Arith) where
  open A use {◌⊕◌, ◌⊖◌, ◌⊗◌, ◌⊘◌, root}

  infixl 60 ◌⊕◌ ◌⊖◌
  infixl 70 ◌⊗◌ ◌⊘◌
  unfoldable pub triple_product : Cartesian → Cartesian → Cartesian → Float
  triple_product a b c =
      x a ⊗ (y b ⊗ z c ⊖ z b ⊗ y c)
      ⊕ y a ⊗ (z b ⊗ x c ⊖ x b ⊗ z c)
      ⊕ z a ⊗ (x b ⊗ y c ⊖ y b ⊗ x c)

  unfoldable pub length : Cartesian → Float
  length v = root (x v ⊗ x v ⊕ y v ⊗ y v ⊕ z v ⊗ z v)

  unfoldable pub subtract : Cartesian → Cartesian → Cartesian
  subtract a b = cartesian (x a ⊖ x b) (y a ⊖ y b) (z a ⊖ z b)

  unfoldable pub vec3_distance : Cartesian → Cartesian → Float
  unfolding length subtract
  vec3_distance a b = length (subtract a b)

  -- ---- equal_area.rs and crs.rs

  unfoldable pub dot : Cartesian → Cartesian → Float
  dot a b = x a ⊗ x b ⊕ y a ⊗ y b ⊕ z a ⊗ z b

  unfoldable pub cross : Cartesian → Cartesian → Cartesian
  cross a b = cartesian (y a ⊗ z b ⊖ z a ⊗ y b) (z a ⊗ x b ⊖ x a ⊗ z b) (x a ⊗ y b ⊖ y a ⊗ x b)

  -- a zero vector stays
  unfoldable pub normalize : Cartesian → Cartesian
  normalize v =
      let l = length v in
      elim (eq l 0·0) [ true ↦ v | false ↦ cartesian (x v ⊘ l) (y v ⊘ l) (z v ⊘ l) ]

  unfoldable pub scale : Cartesian → Float → Cartesian
  scale v s = cartesian (x v ⊗ s) (y v ⊗ s) (z v ⊗ s)

  -- a + b * s
  unfoldable pub scale_and_add : Cartesian → Cartesian → Float → Cartesian
  scale_and_add a b s = cartesian (x a ⊕ x b ⊗ s) (y a ⊕ y b ⊗ s) (z a ⊕ z b ⊗ s)
