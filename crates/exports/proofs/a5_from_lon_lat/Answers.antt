-- `a5_from_lon_lat` meets its contract: what is put is what the conversion gave. Assumes nothing.
use Rattle.exports.proofs.a5_from_lon_lat.Goals as goal

pub returns : goal.returns
returns c = rw (← c.lon_lat.ensures, ← c.from_lon_lat-position.ensures) c.put.ensures
