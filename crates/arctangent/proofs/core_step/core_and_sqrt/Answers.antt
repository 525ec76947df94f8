-- `core_step::core_and_sqrt` meets its contract: the second root is that of x. Assumes nothing.
use lib.Ieee.{of_bits}
use Rattle.elementary.specs.Arctangent.{halved, core}
use Rattle.arctangent.proofs.core_step.core_and_sqrt.Goals as goal

pub returns : goal.returns
unfolding core halved of_bits
returns c =
    let roots = c.sqrt_both-roots.ensures in
    (rw (c.halved.ensures, roots.0) at c.from_quarter.ensures, roots.1)
