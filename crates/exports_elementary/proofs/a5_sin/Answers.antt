-- `a5_sin` meets its contract. Assumes nothing.
use mathlib.Core.Path.{ap, ◌∙◌}
use lib.Ieee.{of_bits}
use Rattle.exports_elementary.specs.Value.{value_or_nan}
use Rattle.exports_elementary.proofs.OrNan.{or_nan}
use Rattle.exports_elementary.proofs.a5_sin.Goals as goal

pub returns : goal.returns
unfolding of_bits
returns c = c.unwrap_or.ensures ∙ or_nan c.sin.result ∙ ap value_or_nan c.sin.ensures
