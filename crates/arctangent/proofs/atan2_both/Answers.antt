-- `atan2_both` meets its contract: each angle is its call's. Assumes nothing.
use Rattle.arctangent.proofs.atan2_both.Goals as goal

pub returns : goal.returns
returns c = (c.atan2_from.ensures, c.atan2_from-2.ensures)
