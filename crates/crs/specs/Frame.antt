-- projections/crs.rs: `get_vertex`, `add` and `new`; document 01, "Origins and frame". A frame is a list of numbers, three a row. Definitions only.
use Rattle.std.specs.Prelude.{ℕ, zero, suc, Bool, true, false, List, [], ◌∷◌, ◌++◌, Float}
use Rattle.std.specs.Float.{binary64}
use Rattle.std.specs.Float.Ieee.{lt, of_bits}
use Rattle.answer.specs.Given.{Given, answered, refused}
use Rattle.arithmetic.specs.Arith.{Arith}
use Rattle.coordinates.specs.Vector.{x, y, z, cartesian, vec3_distance, normalize}
use Rattle.coordinates.specs.declared.coords.Cartesian.{Cartesian}
use Rattle.crs.specs.Candidates.{candidate}

-- 1e-5
unfoldable pub TOLERANCE : Float
unfolding of_bits
TOLERANCE = of_bits binary64 0x3ee4_f8b5_88e3_68f1

-- a point as a row
abbrev pub row : Cartesian → List Float
row p = x p ∷ y p ∷ z p ∷ []

module _ (A : Arith) where
  -- "strictly nearer than 1e-5": vec3_distance(point, vertex) < 1e-5
  unfoldable pub near : Cartesian → Cartesian → Bool
  near point vertex = lt (vec3_distance A point vertex) TOLERANCE

  -- get_vertex: "the first row strictly below 1e-5", or 8. One or two numbers behind the last whole row are no row.
  unfoldable pub find_vertex : List Float → Cartesian → Given Cartesian
  find_vertex [] point = refused 8
  find_vertex (a ∷ []) point = refused 8
  find_vertex (a ∷ b ∷ []) point = refused 8
  find_vertex (a ∷ b ∷ c ∷ rows) point = elim (near point (cartesian a b c)) [ true ↦ answered (cartesian a b c) | false ↦ find_vertex rows point ]

  -- add: a candidate, normalised, is the next row, and is "dropped when strictly nearer than 1e-5 to an earlier row"
  unfoldable pub add_row : List Float → Cartesian → List Float
  add_row rows v =
      let p = normalize A v in
      elim (find_vertex rows p) [ answered earlier ↦ rows | refused n ↦ rows ++ row p ]

  -- m candidates from the number k on, each in turn
  unfoldable pub add_rows : List Float → ℕ → ℕ → List Float → List Float
  add_rows table zero k rows = rows
  add_rows table (suc m) k rows = add_rows table m (suc k) (add_row rows (candidate A table k))

  -- new: the rows that all 132 candidates leave
  unfoldable pub frame_rows : List Float → List Float
  frame_rows table = add_rows table 132 0 []
