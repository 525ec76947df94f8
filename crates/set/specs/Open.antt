-- Document 01, "Calls and their numbers": "Open writes the frame and fills both stores with 0.0." Over a table of origins. Definitions only.
use Rattle.std.specs.Prelude.{not, List, eqb, length, replicate, Float}
use Rattle.answer.specs.Given.{Given, answered, refused, passed, refuse_if, and_then}
use Rattle.arithmetic.specs.Arith.{Arith}
use Rattle.arithmetic.specs.Numbers.{0·0}
use Rattle.origin.specs.Table.{check_table}
use Rattle.crs.specs.Frame.{frame_rows}
use Rattle.set.specs.Sizes.{FRAME, FACE_STORE, SPHERE_STORE}
use Rattle.set.specs.Set.{Set, set_of, check_set}
use Rattle.set.specs.Outcome.{Outcome}

module _ (A : Arith) (table : List Float) where
  -- what open gives: 1, 2, 3; Paper 10's 21, 22; and 7 where the frame's rows aren't 62
  unfoldable pub open_given : Set → Given (Unit {0})
  open_given s =
      and_then (check_set s)
      (and_then (check_table A table)
      (refuse_if (not (eqb (length (frame_rows A table)) FRAME)) 7
      passed))

  -- "writes the frame and fills both stores with 0.0"
  abbrev pub new_set : Set
  new_set = set_of (frame_rows A table) (replicate FACE_STORE 0·0) (replicate SPHERE_STORE 0·0)

  -- the set afterwards, by what open gave
  abbrev pub set_opened : Set → Given (Unit {0}) → Set
  set_opened s (refused n) = s
  set_opened s (answered u) = new_set

  abbrev pub open_on : Set → Outcome (Unit {0})
  open_on s = record { answer = open_given s; set = set_opened s (open_given s) }
