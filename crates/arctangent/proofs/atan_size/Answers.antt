-- `atan_size` meets its contract above 1. Assumes nothing.
use Rattle.std.proofs.Common.{◌≡◌, false, refl}
use lib.Ieee.{le}
use Rattle.arithmetic.specs.Numbers.{1·0}
use Rattle.elementary.specs.Arctangent.{atan_size}
use Rattle.arctangent.proofs.atan_size.Goals as goal

pub returns-else-a : goal.returns-else-a
unfolding atan_size
returns-else-a c =
    let above : le c.args.a 1·0 ≡ false = c.if-a.false in
    rw (above, c.core-else-a.ensures) refl
