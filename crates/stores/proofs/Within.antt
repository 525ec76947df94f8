-- Slots that the stores have: what the test for them tells, and that the slots used are then written. Assumes nothing.
use mathlib.Core.Path.{◌≡◌, refl, sym}
use mathlib.Core.Bool.{Bool, true, false, ◌&&◌, true≢false}
use Prim.Native.Nat.{ℕ, ◌<◌}
use native.Mathlib.Omega.{arith}
use borrow.Author.Tests.{ltb-true, lt-ltb}
use Rattle.std.specs.Prelude.{Result, Ok, Err}
use Rattle.std.specs.Result.{is_ok}
use Rattle.answer.specs.Answer.{given}
use Rattle.answer.specs.declared.Refusal.{Refusal}
use Rattle.answer.specs.Given.{Given, answered, refused, passed}
use Rattle.arithmetic.specs.Arith.{Arith}
use Rattle.set.specs.Sizes.{FACE_SLOTS, SPHERE_SLOTS}
use Rattle.set.specs.Set.{Set}
use Rattle.set.specs.Checks.{check_call}
use Rattle.stores.specs.Slots.{face_slot, source_slot, sphere_slot}
use Rattle.stores.specs.Used.{passes, has_slots, used_written, written_if_there}
use Rattle.stores.specs.declared.used.Used.{Used}

-- ---- the slots of an index below 10 and an origin below 12 are among the stores'

pub face_below : (i : ℕ) (r : Bool) → i < 10 → face_slot i r < FACE_SLOTS
face_below i true h = omega arith
face_below i false h = omega arith

pub source_below : (i : ℕ) (r : Bool) → i < 10 → source_slot i r < FACE_SLOTS
source_below i true h = omega arith
source_below i false h = omega arith

pub sphere_below : (o i : ℕ) (r : Bool) → o < 12 → i < 10 → sphere_slot o i r < SPHERE_SLOTS
sphere_below o i true g h = omega arith
sphere_below o i false g h = omega arith

-- ---- the test

both : (a b : Bool) → a && b ≡ true → (a ≡ true) × (b ≡ true)
both true b e = (refl, e)
both false true e = (e, refl)
both false false e = (e, e)

passes_passed : (g : Given (Unit {0})) → passes g ≡ true → g ≡ passed
passes_passed (answered u) e = refl
passes_passed (refused n) e = absurd (true≢false (sym e))

-- a check that is told by what it returns
pub passes_given : (r : Result (Unit {0}) Refusal) → passes (given r) ≡ is_ok r
passes_given (Ok u) = refl
passes_given (Err n) = refl

module _ (s : Set) (u : Used) where
  pub has_slots_lem : has_slots s u ≡ true → (check_call s u.origin ≡ passed) × (u.index < 10)
  unfolding has_slots
  has_slots_lem e =
      let p = both (passes (check_call s u.origin)) _ e in
      (passes_passed _ p.0, ltb-true _ _ p.1)

  pub written_there : (A : Arith) → check_call s u.origin ≡ passed → u.index < 10 → written_if_there A s u ≡ used_written A s u
  unfolding written_if_there has_slots
  written_there A p h = rw (p, lt-ltb _ _ h)
