-- `least` meets its contract. The loop's invariant: what is left, from here, gives the least of the whole.
-- Assumes nothing.
use mathlib.Core.Path.{◌≡◌}
use lib.ListN.{drop}
use Rattle.nearest.specs.Nearest as spec
use Rattle.nearest.proofs.least.Given as goal

abbrev pub invariant-loop-i : goal.invariant-loop-i
invariant-loop-i l = spec.least_from l.i (drop l.i l.distances) l.min_distance l.nearest ≡ spec.least l.distances
