-- `haversines_in` meets its contract. The loop's invariant: the first k distances are the first k haversines. Assumes nothing.
use mathlib.Core.Path.{◌≡◌}
use lib.ListN.{length, take}
use Rattle.arithmetic.specs.Arith.{ieee}
use Rattle.nearest.specs.Nearest.{haversines}
use Rattle.nearest.proofs.haversines_in.Given as goal

abbrev pub invariant-loop-k : goal.invariant-loop-k
invariant-loop-k l = (length l.distances ≡ 12) × (take l.k l.distances ≡ take l.k (haversines ieee l.table.rows.now l.point))
