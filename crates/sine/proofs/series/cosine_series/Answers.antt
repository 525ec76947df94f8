-- `series::cosine_series` meets its contract: its coefficients are the definition's. Assumes nothing.
use lib.Ieee.{of_bits}
use Rattle.elementary.specs.Constants.{cosine_first, cosine_rest}
use Rattle.sine.proofs.series.cosine_series.Goals as goal

pub returns : goal.returns
unfolding cosine_first cosine_rest of_bits
returns c = c.series.ensures
