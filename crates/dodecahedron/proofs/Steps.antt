-- A core's work with its final answer, by the step at which it ends; and tests before the core are tests before the whole. Assumes nothing.
use mathlib.Core.Path.{◌≡◌, refl}
use Prim.Native.Nat.{ℕ}
use Rattle.answer.specs.Given.{Given, answered, refused, and_then}
use Rattle.dodecahedron.specs.Work.{finish}
use Rattle.dodecahedron.specs.declared.work.Work.{Work}

module _ {X Y : Type 0} (f : X → Given Y) where
  pub by_core : (core : Given (Work X)) (n : ℕ) → core ≡ refused n → refused n ≡ finish core f
  unfolding finish
  by_core core n e = rw e

  pub by_end : (core : Given (Work X)) (w : Work X) (n : ℕ) → core ≡ answered w → f w.answer ≡ refused n → refused n ≡ finish core f
  unfolding finish
  by_end core w n e g = rw e (rw g)

  pub by_answer : (core : Given (Work X)) (w : Work X) (y : Y) → core ≡ answered w → f w.answer ≡ answered y
      → answered (record { answer = y; used = w.used }) ≡ finish core f
  unfolding finish
  by_answer core w y e g = rw e (rw g)

  pub finish_then : (tests : Given (Unit {0})) (core : Given (Work X)) → finish (and_then tests core) f ≡ and_then tests (finish core f)
  unfolding finish
  finish_then (answered u) core = refl
  finish_then (refused n) core = refl
