-- `remainder::shifted` meets its contract. The loop's invariant: r is below 2 ^ 53, and with the j places to come it leaves what m with all k does. The
-- measure is j. Assumes nothing.
use mathlib.Core.Path.{◌≡◌}
use Prim.Native.Nat.{◌*◌, ◌%◌, ◌^◌, ◌<◌}
use Rattle.elementary.proofs.remainder.shifted.Given as goal

abbrev pub invariant-loop-j : goal.invariant-loop-j
invariant-loop-j l = (l.r < 2 ^ 53) × (l.r * 2 ^ l.j % l.n ≡ l.m * 2 ^ l.k % l.n)

abbrev pub decreases-loop-j : goal.decreases-loop-j
decreases-loop-j l = l.j
