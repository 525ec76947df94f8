-- `ring::remaining` meets its contract. The loop's invariant: as many remain of the strikes still looked at as of all. Assumes nothing.
use Rattle.std.proofs.Common.{◌≡◌, ◌-◌, ◌<◌}
use Rattle.window.specs.Ring.{remain}
use Rattle.window.proofs.ring.remaining.Given as goal

abbrev pub invariant-loop-gone : goal.invariant-loop-gone
invariant-loop-gone l = (l.at < 4096) × (remain l.minutes l.minute (l.n - l.gone) l.at ≡ remain l.minutes l.minute l.n l.initial.at)
