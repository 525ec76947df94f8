-- Document 01, "Triangles and calls": which slots a call uses, and how they are written (projections/dodecahedron.rs). Definitions only.
use Rattle.std.specs.Prelude.{ℕ, Bool, true, false, cond, ◌&&◌, List, [], ◌∷◌, ltb, Float}
use Rattle.answer.specs.Given.{Given, answered, refused}
use Rattle.arithmetic.specs.Arith.{Arith}
use Rattle.tiling.specs.FaceTriangles.{face_triangle}
use Rattle.set.specs.Sizes.{FACE_WIDTH, SPHERE_WIDTH}
use Rattle.set.specs.Set.{Set}
use Rattle.set.specs.Checks.{check_call}
use Rattle.stores.specs.Slots.{slot_written, face_slot, source_slot, sphere_slot, face_run, sphere_run}
use Rattle.stores.specs.declared.used.Used.{Used}

-- ---- what an answered call leaves: "An unreflected call uses face slot i and its sphere slot; a reflected one uses 10+i, 20+i
-- and its sphere slot." "Empty used slots are written on success."

-- a sphere slot, with the triangle that the call took, and b × c of it
unfoldable pub sphere_written : List Float → Used → List Float
sphere_written store u =
    slot_written SPHERE_WIDTH store (sphere_slot u.origin u.index u.reflected) (sphere_run u.triangle u.bxc)

module _ (A : Arith) where
  -- a face slot, with the triangle defined for it
  unfoldable pub face_written : List Float → ℕ → List Float
  face_written store k = slot_written FACE_WIDTH store k (face_run (face_triangle A k))

  abbrev pub faces_written : List Float → ℕ → Bool → List Float
  faces_written store i false = face_written store (face_slot i false)
  faces_written store i true = face_written (face_written store (face_slot i true)) (source_slot i true)

  -- the slots used, in both stores
  abbrev pub used_written : Set → Used → Set
  used_written s u =
      record {
        frame = s.frame;
        faces = faces_written s.faces u.index u.reflected;
        spheres = sphere_written s.spheres u;
      }

  -- those of several calls, one call's after another's
  abbrev pub all_written : Set → List Used → Set
  all_written s [] = s
  all_written s (u ∷ us) = all_written (used_written s u) us

-- ---- the same for any set and any slots

abbrev pub passes : Given (Unit {0}) → Bool
passes (answered u) = true
passes (refused n) = false

-- whether the set passes 1 to 4, and the slots used are among its
unfoldable pub has_slots : Set → Used → Bool
has_slots s u = passes (check_call s u.origin) && ltb u.index 10

-- written where the set has them, and else as it was
unfoldable pub written_if_there : Arith → Set → Used → Set
written_if_there A s u = cond (has_slots s u) (used_written A s u) s
