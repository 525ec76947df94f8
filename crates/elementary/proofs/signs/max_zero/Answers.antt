-- `signs::max_zero` meets its contract: x itself where it is above 0. Assumes nothing.
use mathlib.Core.Path.{sym, ap}
use mathlib.Core.Bool.{Bool, cond}
use lib.Ieee.{of_bits}
use Rattle.arithmetic.specs.Numbers.{0·0}
use Rattle.elementary.specs.Signs.{max_zero}
use Rattle.elementary.proofs.signs.max_zero.Goals as goal

pub returns-then-x : goal.returns-then-x
unfolding max_zero of_bits
returns-then-x c = sym (ap (λ (above : Bool). cond above c.args.x 0·0) c.if-x.true)
