-- `SetRef::check` meets its contract. Assumes nothing.
use mathlib.Core.Path.{refl}
use borrow.Author.Tests.{eq-eqb, ne_eqb}
use Rattle.set.specs.Set.{check_set}
use Rattle.set.proofs.set.SetRef.check.Goals as goal

pub returns-then-self-ne-FRAME : goal.returns-then-self-ne-FRAME
unfolding check_set
returns-then-self-ne-FRAME c = simp (ne_eqb _ _ c.if-self-ne-FRAME.true) refl

pub returns-then-self-ne-FACE_STORE : goal.returns-then-self-ne-FACE_STORE
unfolding check_set
returns-then-self-ne-FACE_STORE c = simp (eq-eqb _ _ c.if-self-ne-FRAME.false, ne_eqb _ _ c.if-self-ne-FACE_STORE.true)

pub returns-then-self-ne-SPHERE_STORE : goal.returns-then-self-ne-SPHERE_STORE
unfolding check_set
returns-then-self-ne-SPHERE_STORE c = simp (
  eq-eqb _ _ c.if-self-ne-FRAME.false,
  eq-eqb _ _ c.if-self-ne-FACE_STORE.false,
  ne_eqb _ _ c.if-self-ne-SPHERE_STORE.true,
)

pub returns : goal.returns
unfolding check_set
returns c = simp (eq-eqb _ _ c.if-self-ne-FRAME.false, eq-eqb _ _ c.if-self-ne-FACE_STORE.false, eq-eqb _ _ c.if-self-ne-SPHERE_STORE.false)
