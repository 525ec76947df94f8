-- `inside::sin_inside` meets its contract. Assumes nothing.
use mathlib.Core.Path.{sym, ap, ◌∙◌}
use lib.Ieee.{of_bits}
use Rattle.elementary.specs.declared.sine.SinCos.{SinCos}
use Rattle.elementary.specs.Sine.{sin}
use Rattle.elementary.proofs.Quarters.{otherwise_nan}
use Rattle.sine.proofs.inside.sin_inside.Goals as goal

pub returns-in-Some : goal.returns-in-Some
unfolding sin
returns-in-Some c = c.sin_at.ensures ∙ ap (λ (p : SinCos). p.sin) c.in-Some.ensures.some

pub returns-in-None : goal.returns-in-None
unfolding of_bits sin
returns-in-None c = sym (ap (λ (p : SinCos). p.sin) (otherwise_nan _ c.in-None.ensures.none))
