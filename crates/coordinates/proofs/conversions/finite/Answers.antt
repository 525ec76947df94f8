-- `finite` meets its contract: 9 where a number is not finite. Assumes nothing.
use mathlib.Core.Path.{refl}
use Rattle.coordinates.proofs.conversions.finite.Goals.{else-is_finite-via-then-is_finite+else-is_finite-2, else-is_finite-via-else-is_finite}
use Rattle.coordinates.proofs.conversions.finite.Goals as goal

pub returns : goal.returns
returns g c = elim c.else-is_finite.branch [
  | else-is_finite-via-then-is_finite+else-is_finite-2 w ↦
      rw (← c.is_finite.ensures, w.if-is_finite.true, ← w.is_finite-then-is_finite.ensures, w.if-is_finite-2.false) refl
  | else-is_finite-via-else-is_finite w ↦ rw (← c.is_finite.ensures, w.if-is_finite.false) refl
]
