-- `unlike` meets its contract. The loop's invariant: while none is counted, each number that was passed is the wanted one. Assumes nothing.
use Rattle.std.proofs.Common.{◌≡◌, ◌+◌, ◌≤◌, ◌<◌, ℕ, length}
use Rattle.replay_numbers.specs.Alike.{AlikeAt}
use Rattle.replay_numbers.proofs.unlike.Given as goal

abbrev pub invariant-loop-i : goal.invariant-loop-i
invariant-loop-i l = (l.at + length l.buffer ≤ length l.wanted) × (l.count ≤ l.i) × (l.count ≡ 0 → (k : ℕ) → k < l.i → AlikeAt l.buffer l.wanted l.at k)
