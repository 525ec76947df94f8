-- `check_number` meets its contract: 5 where x is not finite. Assumes nothing.
use mathlib.Core.Path.{refl, sym, ◌∙◌}
use Rattle.answer.specs.Number.{check_number}
use Rattle.answer.proofs.check_number.Goals as goal

pub returns-then-not-is_finite : goal.returns-then-not-is_finite
unfolding check_number
returns-then-not-is_finite c = rw (sym c.is_finite.ensures ∙ c.if-not-is_finite.true) refl
