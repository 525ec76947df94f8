-- `unlike` meets its contract: where the other buffer is too short, one is counted. Assumes nothing.
use Rattle.std.proofs.Math.Nat.{suc-ne-zero}
use Rattle.replay_numbers.proofs.unlike.Goals as goal

pub returns-then-lacks : goal.returns-then-lacks
returns-then-lacks c e = absurd (suc-ne-zero 0 e)
