-- `replay_strike::replay_next` meets its contract: a run that differs is counted once. Assumes nothing.
use Rattle.std.proofs.Common.{◌≡◌, ◌+◌, ◌≤◌, arith}
use Rattle.replay_strike.proofs.replay_next.Goals as goal
use Rattle.replay_strike.proofs.replay_next.Goals.{then-not-agrees+in_ok-writeln, else-not-agrees}

pub loop-more-preserved : goal.loop-more-preserved
loop-more-preserved c given =
    let differ = given.if-not-agrees.differ in
    let counted : differ ≤ given.loop-more.differ + 1 = elim given.if-not-agrees.branch [
      | then-not-agrees+in_ok-writeln w ↦ let once : differ ≡ given.loop-more.differ + 1 = w.differ-is in omega (arith, once)
      | else-not-agrees w ↦ omega (arith, w.differ-is)
    ] in
    omega (arith, counted, given.loop-more.invariant)
