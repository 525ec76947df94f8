-- `Set::opened` meets its contract: where the notes have no such frame, the face store stays too. Assumes nothing.
use Rattle.std.proofs.Common.{refl}
use Rattle.replay_sets.proofs.noted.Set.opened.Goals as goal

pub returns-in_err-copy-clause-face : goal.returns-in_err-copy-clause-face
returns-in_err-copy-clause-face c = refl
