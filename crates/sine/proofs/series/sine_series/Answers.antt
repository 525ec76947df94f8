-- `series::sine_series` meets its contract: its coefficients are the definition's. Assumes nothing.
use mathlib.Core.Path.{ap}
use lib.Ieee.{binary64, mul, of_bits}
use Rattle.elementary.specs.Constants.{sine_first, sine_rest}
use Rattle.sine.proofs.series.sine_series.Goals as goal

pub returns : goal.returns
unfolding sine_first sine_rest of_bits
returns c = ap (mul binary64 c.args.r) c.series.ensures
