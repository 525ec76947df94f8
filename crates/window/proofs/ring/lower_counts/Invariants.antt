-- `ring::lower_counts` meets its contract. The loop's invariant: lowering the counts by the strikes still to come leaves what lowering them by all leaves.
-- Assumes nothing.
use Rattle.std.proofs.Common.{◌≡◌, ◌-◌, ◌<◌}
use Rattle.window.specs.Ring.{lowered}
use Rattle.window.proofs.ring.lower_counts.Given as goal

abbrev pub invariant-loop-gone : goal.invariant-loop-gone
invariant-loop-gone l = (l.at < 4096) × (lowered l.origins (l.n - l._gone) l.at l.counts ≡ lowered l.origins l.n l.initial.at l.initial.counts)
