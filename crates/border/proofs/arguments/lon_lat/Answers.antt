-- `lon_lat` meets its contract. Assumes nothing.
use mathlib.Core.Path.{refl}
use Rattle.border.proofs.arguments.lon_lat.Goals as goal

pub returns : goal.returns
returns c = refl
