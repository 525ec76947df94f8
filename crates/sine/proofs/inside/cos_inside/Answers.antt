-- `inside::cos_inside` meets its contract. Assumes nothing.
use mathlib.Core.Path.{sym, ap, ◌∙◌}
use lib.Ieee.{of_bits}
use Rattle.elementary.specs.declared.sine.SinCos.{SinCos}
use Rattle.elementary.specs.Sine.{cos}
use Rattle.elementary.proofs.Quarters.{otherwise_nan}
use Rattle.sine.proofs.inside.cos_inside.Goals as goal

pub returns-in-Some : goal.returns-in-Some
unfolding cos
returns-in-Some c = c.cos_at.ensures ∙ ap (λ (p : SinCos). p.cos) c.in-Some.ensures.some

pub returns-in-None : goal.returns-in-None
unfolding of_bits cos
returns-in-None c = sym (ap (λ (p : SinCos). p.cos) (otherwise_nan _ c.in-None.ensures.none))
