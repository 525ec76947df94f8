-- `inside::tan_inside` meets its contract. Assumes nothing.
use Rattle.std.proofs.Common.{refl}
use Rattle.elementary.specs.Sine.{tan}
use Rattle.sine.proofs.inside.tan_inside.Goals as goal

pub returns : goal.returns
unfolding tan
returns c = rw c.sin_cos_inside-p.ensures refl
