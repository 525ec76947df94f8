-- `gnomonic::forward` meets its contract. Assumes nothing.
use Rattle.std.proofs.Common.{refl}
use Rattle.coordinates.specs.Gnomonic.{gnomonic_forward}
use Rattle.transforms.proofs.gnomonic.forward.Goals as goal

pub returns : goal.returns
unfolding gnomonic_forward
returns c = rw c.tan_inside.ensures refl
