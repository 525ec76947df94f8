-- `quaternion::transform_quat` meets its contract. Assumes nothing.
use mathlib.Core.Path.{refl}
use Rattle.arithmetic.specs.Arith.{ieee}
use Rattle.origin.specs.Quaternion.{transform_quat}
use Rattle.origin.proofs.quaternion.transform_quat.Goals as goal

pub returns : goal.returns
unfolding transform_quat
returns c = rw c.quat_conjugate-conj.ensures (refl {a = transform_quat ieee c.args.v c.args.q})
