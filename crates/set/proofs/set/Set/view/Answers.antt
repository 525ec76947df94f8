-- `Set::view` meets its contract. Assumes nothing.
use mathlib.Core.Path.{refl}
use Rattle.set.proofs.set.Set.view.Goals as goal

pub returns : goal.returns
returns c = refl
