-- `least` meets its contract. The loop's invariant: what is left, from here, gives the least of the whole. Assumes nothing.
use mathlib.Core.Path.{refl, sym, ◌∙◌}
use native.Mathlib.Omega.{arith}
use lib.Ieee.{of_bits}
use Rattle.nearest.specs.Nearest as spec
use Rattle.nearest.proofs.LeastOf.{less, not_less, at_end}
use Rattle.nearest.proofs.least.Goals.{then-distance-min_distance, else-distance-min_distance}
use Rattle.nearest.proofs.least.Goals as goal

pub loop-i-init : goal.loop-i-init
unfolding spec.least of_bits
loop-i-init c = refl

pub loop-i-preserved : goal.loop-i-preserved
loop-i-preserved c =
    let v = c.loop-i in
    let hs = c.args.distances.now in
    elim c.if-distance-min_distance.branch [
      | then-distance-min_distance w ↦
          rw (w.min_distance-is, w.nearest-is) (sym (less hs v.i v.min_distance v.nearest (omega arith) w.if-distance-min_distance.true) ∙ v.invariant)
      | else-distance-min_distance w ↦
          rw (w.min_distance-is, w.nearest-is) (sym (not_less hs v.i v.min_distance v.nearest (omega arith) w.if-distance-min_distance.false) ∙ v.invariant)
    ]

pub returns : goal.returns
returns c =
    let v = c.loop-i in
    sym (at_end c.args.distances.now v.i v.min_distance v.nearest (omega arith)) ∙ v.invariant
