-- `take_lent` meets its contract: the box is the one that `take_in` leaves. Assumes nothing.
use Rattle.replay_boxes.proofs.lent.take_lent.Goals as goal

pub returns : goal.returns
returns c = c.take_in-given.ensures
