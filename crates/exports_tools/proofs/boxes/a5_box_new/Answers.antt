-- `boxes::a5_box_new` meets its contract: the box is a new one. Assumes nothing.
use Rattle.exports_tools.proofs.boxes.a5_box_new.Goals as goal

pub returns : goal.returns
returns c = c.new.ensures
