-- `candidates::vertex` meets its contract. Assumes nothing.
use mathlib.Core.Path.{refl}
use Prim.Native.Nat.{◌/◌}
use native.Mathlib.Omega.{arith}
use lib.Ieee.{of_bits}
use Rattle.elementary.specs.Sine.{beyond}
use Rattle.origin.proofs.Sizes.{sound_small, small_angle}
use Rattle.crs.specs.Candidates.{vertex}
use Rattle.crs.proofs.Angles.{angles}
use Rattle.crs.proofs.candidates.vertex.Goals as goal

pub returns : goal.returns
unfolding vertex
returns c = rw (c.around.ensures, c.origin_in.ensures, angles.vertex)

pub around-requires : goal.around-requires
unfolding beyond of_bits
around-requires c =
    let o = sound_small c.args.table.rows.now c.args.table.sound (c.args.k / 5) (omega arith) in
    (omega arith, rw c.origin_in.ensures (small_angle _ o), refl)
