-- Document 01, "Calls and their numbers" and "Triangles and calls", and Paper 6: a store is slots of one width; a slot is a mark,
-- 1.0 where it is filled, and a run of coordinates, "vertices a, b, c in turn", in a sphere slot "then b × c". Definitions only.
use Rattle.std.specs.Prelude.{ℕ, ◌+◌, ◌*◌, Bool, true, false, cond, List, [], ◌∷◌, ◌++◌, length, get_or, take, drop, Float}
use Rattle.std.specs.Float.{nan}
use Rattle.std.specs.Float.Ieee.{eq}
use Rattle.arithmetic.specs.Numbers.{1·0}
use Rattle.coordinates.specs.CoordinateTransforms.{face}
use Rattle.coordinates.specs.Vector.{x, y, z, cartesian}
use Rattle.coordinates.specs.declared.coords.Cartesian.{Cartesian}
use Rattle.coordinates.specs.declared.coords.FaceTriangle.{FaceTriangle}
use Rattle.coordinates.specs.declared.coords.SphericalTriangle.{SphericalTriangle}

-- n numbers from place i on
abbrev pub run : {A : Type 0} → List A → ℕ → ℕ → List A
run xs i n = take n (drop i xs)

-- xs with ys in the place of as many from place i on
unfoldable pub put : {A : Type 0} → List A → ℕ → List A → List A
put xs i ys = take i xs ++ (ys ++ drop (length ys) (drop i xs))

-- "1.0 is filled, anything else is empty": the mark at place i
unfoldable pub filled : List Float → ℕ → Bool
filled xs i = eq (get_or xs i nan) 1·0

-- a store whose slot k of the width w, if empty, is written with its mark and the coordinates ys; a filled one stays as it stands
unfoldable pub slot_written : ℕ → List Float → ℕ → List Float → List Float
slot_written w xs k ys = cond (filled xs (k * w)) xs (put xs (k * w) (1·0 ∷ ys))

-- ---- the numbers of slots, by index and reflection

-- the face triangle of a point: "face slot i", or "10+i" if reflected
abbrev pub face_slot : ℕ → Bool → ℕ
face_slot i false = i
face_slot i true = i + 10

-- the one that a sphere triangle is built from: face slot i, "20+i if reflected"
abbrev pub source_slot : ℕ → Bool → ℕ
source_slot i false = i
source_slot i true = i + 20

-- "Sphere slot is 10·origin + index, plus 120 if reflected"
abbrev pub sphere_slot : ℕ → ℕ → Bool → ℕ
sphere_slot o i false = o * 10 + i
sphere_slot o i true = o * 10 + i + 120

-- ---- a triangle's coordinates as a run, and the triangle that a run stands for

abbrev pub face_run : FaceTriangle → List Float
face_run t = t.a.0.x ∷ t.a.0.y ∷ t.b.0.x ∷ t.b.0.y ∷ t.c.0.x ∷ t.c.0.y ∷ []

abbrev pub face_in : List Float → FaceTriangle
face_in r =
    record {
      a = face (get_or r 0 nan) (get_or r 1 nan);
      b = face (get_or r 2 nan) (get_or r 3 nan);
      c = face (get_or r 4 nan) (get_or r 5 nan);
    }

abbrev pub triangle_run : SphericalTriangle → List Float
triangle_run t = x t.a ∷ y t.a ∷ z t.a ∷ x t.b ∷ y t.b ∷ z t.b ∷ x t.c ∷ y t.c ∷ z t.c ∷ []

-- Paper 6: "nine coordinates, then b × c"
abbrev pub sphere_run : SphericalTriangle → Cartesian → List Float
sphere_run t bxc = triangle_run t ++ (x bxc ∷ y bxc ∷ z bxc ∷ [])

abbrev pub sphere_in : List Float → SphericalTriangle
sphere_in r =
    record {
      a = cartesian (get_or r 0 nan) (get_or r 1 nan) (get_or r 2 nan);
      b = cartesian (get_or r 3 nan) (get_or r 4 nan) (get_or r 5 nan);
      c = cartesian (get_or r 6 nan) (get_or r 7 nan) (get_or r 8 nan);
    }

-- three numbers as a vector
abbrev pub vector_in : List Float → Cartesian
vector_in r = cartesian (get_or r 0 nan) (get_or r 1 nan) (get_or r 2 nan)
