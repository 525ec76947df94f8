-- `core_step::core_both` meets its contract: each angle is the steps on its own tangent. Assumes nothing.
use Rattle.elementary.specs.Arctangent.{core}
use Rattle.arctangent.proofs.core_step.core_both.Goals as goal

pub returns : goal.returns
unfolding core
returns c =
    let half = c.halved_both-half.ensures in
    let quarter = c.halved_both-quarter.ensures in
    (rw (quarter.0, half.0) at c.from_quarter.ensures, rw (quarter.1, half.1) at c.from_quarter-2.ensures)
