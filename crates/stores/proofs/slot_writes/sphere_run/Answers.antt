-- `slot_writes::sphere_run` meets its contract, number by number. Assumes nothing.
use mathlib.Core.Path.{refl}
use Rattle.stores.proofs.slot_writes.sphere_run.Goals as goal

pub returns : goal.returns
returns c = refl
