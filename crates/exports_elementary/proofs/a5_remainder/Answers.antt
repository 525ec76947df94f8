-- `a5_remainder` meets its contract: remainder's. Assumes nothing.
use Rattle.exports_elementary.proofs.a5_remainder.Goals as goal

pub returns : goal.returns
returns c = c.remainder.ensures
