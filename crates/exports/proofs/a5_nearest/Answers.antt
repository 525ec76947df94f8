-- `a5_nearest` meets its contract: what is put is what nearest gave. Assumes nothing.
use Rattle.exports.proofs.a5_nearest.Goals as goal

pub returns : goal.returns
returns c = rw (← c.spherical.ensures, ← c.nearest-nearest.ensures) c.put.ensures
