-- `replay_strike::replay_next` meets its contract. The loop's invariant: of the runs so far no more differ than there were. Assumes nothing.
use Prim.Native.Nat.{◌≤◌}
use Rattle.replay_strike.proofs.replay_next.Given as goal

abbrev pub invariant-loop-more : goal.invariant-loop-more
invariant-loop-more _ l = l.differ ≤ l.more-index
