-- Document 01, "Calls and their numbers": a set is three lent buffers, and 1, 2 and 3 look at their lengths. Definitions only.
use Rattle.std.specs.Prelude.{not, List, eqb, Float, length}
use Rattle.answer.specs.Given.{Given, passed, refuse_if}
use Rattle.set.specs.Sizes.{FRAME, FACE_STORE, SPHERE_STORE}

-- the frame, the face store and the sphere store, of any lengths and with any contents
pub record Set : Type 0 where
  pub frame : List Float
  pub faces : List Float
  pub spheres : List Float

abbrev pub set_of : List Float → List Float → List Float → Set
set_of frame faces spheres = record { frame = frame; faces = faces; spheres = spheres }

-- 1, 2, 3
unfoldable pub check_set : Set → Given (Unit {0})
check_set s =
    refuse_if (not (eqb (length s.frame) FRAME)) 1
    (refuse_if (not (eqb (length s.faces) FACE_STORE)) 2
    (refuse_if (not (eqb (length s.spheres) SPHERE_STORE)) 3
    passed))
