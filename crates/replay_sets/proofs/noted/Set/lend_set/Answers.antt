-- `Set::lend_set` meets its contract: each store is lent as its own. Assumes nothing.
use Rattle.replay_sets.proofs.noted.Set.lend_set.Goals as goal

pub returns-clause-face : goal.returns-clause-face
returns-clause-face c = c.in_ok-frame.ensures.face
