-- `signs::abs` meets its contract: the sign bit is cleared, and a NaN stays. Assumes nothing.
use mathlib.Core.Path.{sym, ap, ◌∙◌}
use Rattle.elementary.specs.Signs.{abs}
use Rattle.elementary.proofs.SignBit.{cleared, cleared_number, the_nan}
use Rattle.elementary.proofs.signs.abs.Goals as goal

pub returns-then-is_nan : goal.returns-then-is_nan
unfolding abs
returns-then-is_nan c = let n = the_nan c.args.x (sym c.if-is_nan.ensures.value) in n ∙ ap abs (sym n)

pub float_from_bits-result : goal.float_from_bits-result
float_from_bits-result c = cleared_number c.args.x (rw c.well_formed.0.1 tt) c.if-is_nan.ensures.not_nan

pub returns : goal.returns
returns c = cleared c.args.x (rw c.well_formed.0.1 tt) c.if-is_nan.ensures.not_nan
