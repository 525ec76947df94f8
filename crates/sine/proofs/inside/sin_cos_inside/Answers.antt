-- `inside::sin_cos_inside` meets its contract. Assumes nothing.
use mathlib.Core.Path.{sym}
use lib.Ieee.{of_bits}
use Rattle.elementary.proofs.Quarters.{otherwise_nan}
use Rattle.sine.proofs.inside.sin_cos_inside.Goals as goal

pub returns-in-None : goal.returns-in-None
unfolding of_bits
returns-in-None c = sym (otherwise_nan _ c.in-None.ensures.none)
