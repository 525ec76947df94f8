-- `spherical` meets its contract. Assumes nothing.
use mathlib.Core.Path.{refl}
use Rattle.border.proofs.arguments.spherical.Goals as goal

pub returns : goal.returns
returns c = refl
