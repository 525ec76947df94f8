-- `answered` meets its contract. Assumes nothing.
use Rattle.std.proofs.Common.{refl}
use Rattle.replay.proofs.outcome.answered.Goals as goal

pub returns : goal.returns
returns c = refl
