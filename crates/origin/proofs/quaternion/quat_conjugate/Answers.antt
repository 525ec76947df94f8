-- `quaternion::quat_conjugate` meets its contract. Assumes nothing.
use mathlib.Core.Path.{refl}
use Rattle.origin.specs.Quaternion.{quat_conjugate}
use Rattle.origin.proofs.quaternion.quat_conjugate.Goals as goal

pub returns : goal.returns
unfolding quat_conjugate
returns c = refl {a = quat_conjugate c.args.q}
