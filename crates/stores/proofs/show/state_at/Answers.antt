-- `show::state_at` meets its contract: the test of the mark is the definition's. Assumes nothing.
use mathlib.Core.Path.{refl}
use lib.Ieee.{of_bits}
use Rattle.stores.specs.Slots.{filled}
use Rattle.stores.proofs.show.state_at.Goals as goal

pub returns : goal.returns
unfolding filled of_bits
returns c = refl
