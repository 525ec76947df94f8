-- `counts::place_of` meets its contract: a step has the last line. Assumes nothing.
use Rattle.std.proofs.Common.{◌<◌, arith}
use Rattle.replay_histories.proofs.counts.place_of.Goals as goal

pub returns-in-Step : goal.returns-in-Step
returns-in-Step c = let last : 21 < 22 = omega arith in last
