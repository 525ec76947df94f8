-- The checks of a set and an origin backwards: where they passed, the three lengths are right and the origin is one of the
-- twelve; and forwards. Assumes nothing.
use mathlib.Core.Path.{◌≡◌}
use mathlib.Core.Bool.{not, true, false}
use mathlib.Core.List.{List}
use Prim.Native.Nat.{ℕ, ◌<◌}
use native.Mathlib.Omega.{arith}
use lib.Dec.{eqb, ltb}
use lib.ListN.{length}
use lib.Ieee.{Float}
use borrow.Author.Tests.{eqb-true, eq-eqb, ltb-false, le-ltb, not-false}
use Rattle.answer.specs.Given.{passed}
use Rattle.answer.proofs.Given.{refuse_answered, then_answered}
use Rattle.arithmetic.specs.Arith.{Arith}
use Rattle.origin.specs.Table.{numbers_sound, check_table}
use Rattle.origin.proofs.Check.{passed_sound}
use Rattle.set.specs.Sizes.{FRAME, FACE_STORE, SPHERE_STORE}
use Rattle.set.specs.Set.{Set, check_set}
use Rattle.set.specs.Checks.{check_origin, check_call, check_with}

pub record Fits (s : Set) : Type 0 where
  pub frame : length s.frame ≡ FRAME
  pub faces : length s.faces ≡ FACE_STORE
  pub spheres : length s.spheres ≡ SPHERE_STORE

-- a number that a test found to be that of a buffer
pub is_number : (a n : ℕ) → not (eqb a n) ≡ false → a ≡ n
is_number a n e = eqb-true a n (not-false (eqb a n) e)

pub set_passed : (s : Set) → check_set s ≡ passed → Fits s
unfolding check_set
set_passed s e =
    let frame = refuse_answered (not (eqb (length s.frame) FRAME)) 1 _ tt e in
    let faces = refuse_answered (not (eqb (length s.faces) FACE_STORE)) 2 _ tt frame.1 in
    let spheres = refuse_answered (not (eqb (length s.spheres) SPHERE_STORE)) 3 _ tt faces.1 in
    record {
      frame = is_number _ FRAME frame.0;
      faces = is_number _ FACE_STORE faces.0;
      spheres = is_number _ SPHERE_STORE spheres.0;
    }

pub origin_passed : (o : ℕ) → check_origin o ≡ passed → o < 12
unfolding check_origin
origin_passed o e = let h = ltb-false 11 o (refuse_answered (ltb 11 o) 4 _ tt e).0 in omega (arith, h)

pub call_passed : (s : Set) (o : ℕ) → check_call s o ≡ passed → Fits s × (o < 12)
call_passed s o e =
    let both = then_answered (check_set s) (check_origin o) tt e in
    (set_passed s both.0, origin_passed o both.1)

-- with a table: its numbers are sound too
pub with_passed : (A : Arith) (table : List Float) (s : Set) → check_with A table s ≡ passed → Fits s × (numbers_sound table ≡ true)
with_passed A table s e =
    let both = then_answered (check_set s) (check_table A table) tt e in
    (set_passed s both.0, passed_sound A table both.1)

pub set_passes : (s : Set) → Fits s → check_set s ≡ passed
unfolding check_set
set_passes s h = rw (eq-eqb _ FRAME h.frame, eq-eqb _ FACE_STORE h.faces, eq-eqb _ SPHERE_STORE h.spheres)

pub origin_passes : (o : ℕ) → o < 12 → check_origin o ≡ passed
unfolding check_origin
origin_passes o h = rw (le-ltb 11 o (omega arith))

pub call_passes : (s : Set) (o : ℕ) → Fits s → o < 12 → check_call s o ≡ passed
call_passes s o h l = rw (set_passes s h, origin_passes o l)
